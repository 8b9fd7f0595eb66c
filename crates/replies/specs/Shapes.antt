-- The shape that the library names.
use Rattle.replies.specs.declared.shapes.Shape.{Shape}

-- of a held timer
abbrev pub shape : Shape
shape = record { size = 248; align = 8 }

-- The shape of a board that the library names is the one in the logic's memory.
use mathlib.Core.Path.{◌≡◌, refl}
use prog.Memory.{size, align}
use Rattle.board.proofs.state.Board.TheLaws as board
use Rattle.shell.specs.Numbers.{board_shape}

pub board-size : size board.mir ≡ board_shape.size
board-size = refl

pub board-align : align board.mir ≡ board_shape.align
board-align = refl

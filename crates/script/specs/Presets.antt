-- The presets (docs/SCRIPT.md, "Presets, by the sheets"): their names, and the keys of each.
use Rattle.std.specs.Prelude.{ℕ, cond, List, ◌==◌, Option, Result, Ok}
use Rattle.figures.specs.Figures.{text}
use Rattle.m328p.specs.Timers.{timer0, timer1, timer2}
use Rattle.words.specs.declared.Unreadable.{Unreadable}
use Rattle.words.specs.Words.{place_of}
use Rattle.config_keys.specs.declared.Keys.{Keys}
use Rattle.config_keys.specs.Keys.{keys_of, saying_of}

-- the place of a preset's name in their list
abbrev pub preset_of : List ℕ → Option ℕ
preset_of word = place_of (text "m328p.timer0 m328p.timer1 m328p.timer2 m2560.timer1 m2560.timer3 m2560.timer4 m2560.timer5 m8.timer0 m16.timer0 m16.timer1") word

-- the other timers by their keys: the ATmega2560's Timer1, 3, 4 and 5, "pins of the 100-pin TQFP"; "single layouts and an older split one", the ATmega8's Timer0, the ATmega16's Timer0 and Timer1
unfoldable pub preset_text : ℕ → List ℕ
preset_text n =
    cond (n == 3)
    (text "id=1 wide=1 layout=split tccra=80 tccrb=81 foc=82 foca=80 focb=40 tcnt=84 ocra=88 ocrb=8A icr=86 tov=1 ocfa=2 ocfb=4 icf=20 pina=24 pinb=25 c=8C:8:26:20 icp=47 t=49 clock=sync group=1 prr=8 sleeprun=0")
    (cond (n == 4)
    (text "id=3 wide=1 layout=split tccra=90 tccrb=91 foc=92 foca=80 focb=40 tcnt=94 ocra=98 ocrb=9A icr=96 tov=1 ocfa=2 ocfb=4 icf=20 pina=5 pinb=6 c=9C:8:7:20 icp=9 t=8 clock=sync group=1 prr=800 sleeprun=0")
    (cond (n == 5)
    (text "id=4 wide=1 layout=split tccra=A0 tccrb=A1 foc=A2 foca=80 focb=40 tcnt=A4 ocra=A8 ocrb=AA icr=A6 tov=1 ocfa=2 ocfb=4 icf=20 pina=15 pinb=16 c=AC:8:17:20 icp=35 t=27 clock=sync group=1 prr=1000 sleeprun=0")
    (cond (n == 6)
    (text "id=5 wide=1 layout=split tccra=120 tccrb=121 foc=122 foca=80 focb=40 tcnt=124 ocra=128 ocrb=12A icr=126 tov=1 ocfa=2 ocfb=4 icf=20 pina=38 pinb=39 c=12C:8:40:20 icp=36 t=37 clock=sync group=1 prr=2000 sleeprun=0")
    (cond (n == 7)
    (text "id=0 wide=0 layout=single0 tccra=53 tccrb=53 foc=53 foca=0 focb=0 tcnt=52 ocra=- ocrb=- icr=- tov=1 ocfa=0 ocfb=0 icf=0 pina=- pinb=- c=- icp=- t=6 clock=sync group=1 prr=0 sleeprun=0")
    (cond (n == 8)
    (text "id=0 wide=0 layout=single tccra=53 tccrb=53 foc=53 foca=80 focb=0 tcnt=52 ocra=5C ocrb=- icr=- tov=1 ocfa=2 ocfb=0 icf=0 pina=4 pinb=- c=- icp=- t=1 clock=sync group=1 prr=0 sleeprun=0")
    (text "id=1 wide=1 layout=split tccra=4F tccrb=4E foc=4F foca=8 focb=4 tcnt=4C ocra=4A ocrb=48 icr=46 tov=4 ocfa=10 ocfb=8 icf=20 pina=19 pinb=18 c=- icp=20 t=2 clock=sync group=1 prr=0 sleeprun=0"))))))

-- the keys of the preset at a place: the ATmega328P's say its three configurations
unfoldable pub preset_keys : ℕ → Result Keys Unreadable
preset_keys n =
    cond (n == 0) (Ok (saying_of timer0))
    (cond (n == 1) (Ok (saying_of timer1))
    (cond (n == 2) (Ok (saying_of timer2)) (keys_of (preset_text n) 0)))

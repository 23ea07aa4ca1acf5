-- A line has one start and one end.
use Rattle.std.proofs.Common.{◌≡◌, ℕ, List, sym, ◌∙◌, ap, arith}
use Rattle.source_text.specs.Lines.{IsStart, IsStop, IsEnd, before_return}
use Rattle.source_text.proofs.LinesLemmas.{starts_first, stops_last}

pub one_start : (text : List ℕ) (line first second : ℕ) → IsStart text line first → IsStart text line second
    → first ≡ second
one_start text line first second one other =
    omega (
      arith,
      starts_first text line first second one other.here,
      starts_first text line second first other one.here,
    )

pub one_stop : (text : List ℕ) (line first second : ℕ) → IsStop text line first → IsStop text line second
    → first ≡ second
one_stop text line first second one other =
    omega (
      arith,
      stops_last text line first second one other.within other.here,
      stops_last text line second first other one.within one.here,
    )

pub one_end : (text : List ℕ) (line first second : ℕ) → IsEnd text line first → IsEnd text line second → first ≡ second
one_end text line first second one other =
    one.value ∙ ap (before_return text) (one_stop text line one.stop other.stop one.stops other.stops) ∙ sym other.value

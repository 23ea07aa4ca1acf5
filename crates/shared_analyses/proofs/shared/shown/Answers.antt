use Rattle.std.proofs.Common.{◌≡◌, true, false, Bool, refl}
use Rattle.std.specs.Prelude.{not, bytes_eq}
use Rattle.url.specs.Parts.{serialize}
use Rattle.shared_analyses.proofs.KeptLemmas.{other_specifier, told_made}
use Rattle.shared_analyses.proofs.shared.shown.Goals as goal

is_false : (b : Bool) → not b ≡ true → b ≡ false
is_false true h = let bad : ⊥ = cc in absurd bad
is_false false h = refl

-- another specifier makes another pair
pub returns-then-ne-clause-kept : goal.returns-then-ne-clause-kept
returns-then-ne-clause-kept c =
    let k = c.args.kept.now in
    let s = c.args.specifier.now in
    let no : not (bytes_eq (serialize k.specifier) (serialize s)) ≡ true = cc (c.ne.ensures, c.if-ne.true) in
    λ pair. absurd (other_specifier k s c.args.answer.now (is_false _ no) pair)

pub returns-then-ne-clause-tells : goal.returns-then-ne-clause-tells
returns-then-ne-clause-tells c =
    let k = c.args.kept.now in
    let s = c.args.specifier.now in
    let no : not (bytes_eq (serialize k.specifier) (serialize s)) ≡ true = cc (c.ne.ensures, c.if-ne.true) in
    told_made k (s, c.args.answer.now) c.own.result (other_specifier k s c.args.answer.now (is_false _ no))
    c.own.ensures.made

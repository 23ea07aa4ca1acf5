-- A punctuator ends within the text.
use Rattle.std.proofs.Common.{◌≤◌, length, Some, IfSome, sym, subst, arith}
use Rattle.es_lexer.specs.declared.signs.Sign.{Sign}
use Rattle.es_lexer.proofs.SignLemmas.{size_within}
use Rattle.es_lexer.proofs.look.sign_from.Goals as goal

pub overflow_add-result : goal.overflow_add-result
overflow_add-result c =
    let h : IfSome (Some c.in-Some.sign) (λ (g : Sign). g.size ≤ length c.args.text.now) =
    subst (λ f. IfSome f (λ (g : Sign). g.size ≤ length c.args.text.now)) (sym c.in-Some.ensures)
    (size_within c.args.text.now) in
    omega arith

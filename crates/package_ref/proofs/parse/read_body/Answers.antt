use Rattle.std.proofs.Common.{◌∙◌, sym}
use Rattle.package_ref.proofs.AnswerLemmas.{handed_on, refused_name, read_body_from, whole_package-more, whole_package-done}
use Rattle.package_ref.proofs.parse.read_body.Goals as goal

pub returns-then-not-is_empty : goal.returns-then-not-is_empty
returns-then-not-is_empty c =
    read_body_from _ _ _ _ _ _ _ c.in_ok-rest-2.name _ _ c.in_ok-rest.ensures c.in_ok-rest-2.ensures
    c.in_ok-rest-3.ensures
    c.in_ok-rest-4.ensures
    ∙ whole_package-more _ _ _ _ _ (sym c.is_empty.ensures ∙ c.if-not-is_empty.true)

pub returns : goal.returns
returns c =
    rw (c.in_ok-from_str.ensures, c.in_ok-owned.ensures, c.in_ok-owned-2.ensures, c.unless_empty.ensures) (
    read_body_from _ _ _ _ _ _ _ c.in_ok-rest-2.name _ _ c.in_ok-rest.ensures c.in_ok-rest-2.ensures
    c.in_ok-rest-3.ensures c.in_ok-rest-4.ensures
    ∙ whole_package-done _ _ _ _ _ (sym c.is_empty.ensures ∙ c.if-not-is_empty.false)
    )

pub returns-in_err-rest-2 : goal.returns-in_err-rest-2
returns-in_err-rest-2 c =
    handed_on _ _ _ c.from_residual-in_err-rest-2.ensures.1
    (refused_name c.args.kind c.args.text.now _ _ _ c.in_ok-rest.ensures c.in_err-rest-2.ensures)

use Rattle.std.specs.Prelude.{Option}
use Rattle.std.proofs.Common.{subst, sym}
use Rattle.es_ast.specs.declared.ast.Param.{Param}
use Rattle.es_syntax.specs.Held.{held, valued}
use Rattle.es_syntax.specs.Roles.{param_in}
use Rattle.dts_draft.specs.Written.{IfThere}
use Rattle.dts_parts.specs.Params.{param_rule, Made}
use Rattle.dts_parts.proofs.ParamLemmas.{default_there, kept_there, typed_there}
use Rattle.dts_parts.proofs.params.tailed_param.Goals as goal

-- with a default
pub returns-in-Some-clause-written : goal.returns-in-Some-clause-written
returns-in-Some-clause-written c = λ e by knows span is.
    let x = c.args.env.now.text.now in
    let ts = c.args.env.now.tokens.now in
    let P : Option Param → Type 0 =
    λ o. IfThere (Made x ts param_in (param_rule by) c.args.out.now c.marked_default.new.out) o in
    subst P (sym is)
    (default_there by x ts c.args.out.now c.marked_default.new.out _ _ span (valued x ts c.args.name.now)
    (held x ts c.args.mark.now.entries.now)
    (held x ts c.args.ty.now.entries.now) _ _ _ (c.in-Some.ensures.value x ts)
    (c.marked_default.ensures.written e by knows))

-- with a type
pub returns-in-Some-split-clause-written : goal.returns-in-Some-split-clause-written
returns-in-Some-split-clause-written c = λ e by knows span is.
    let x = c.args.env.now.text.now in
    let ts = c.args.env.now.tokens.now in
    kept_there by x ts c.args.out.now c.keep_there.new.self _ _ is (c.keep_there.ensures.written e x ts)
    c.keep_there.ensures.state
    (typed_there by x ts c.args.name.now _ _ span _ _ _ _ _ (c.in-None.ensures.value x ts)
    (c.in-Some-split.ensures.value x ts))

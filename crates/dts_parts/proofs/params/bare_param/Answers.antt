use Rattle.std.specs.Prelude.{Option}
use Rattle.std.proofs.Common.{subst, sym}
use Rattle.es_ast.specs.declared.ast.Param.{Param}
use Rattle.es_syntax.specs.Held.{valued}
use Rattle.es_syntax.specs.Roles.{param_in}
use Rattle.dts_draft.specs.Written.{IfThere}
use Rattle.dts_parts.specs.Params.{param_rule, Made}
use Rattle.dts_parts.proofs.ParamLemmas.{any_there, array_stays, bare_stays, kept_there, object_stays}
use Rattle.dts_parts.proofs.params.bare_param.Goals as goal

pub returns-in-Some-Ident-clause-written : goal.returns-in-Some-Ident-clause-written
returns-in-Some-Ident-clause-written c = λ e by span ty value untyped none is.
    let x = c.args.env.now.text.now in
    let ts = c.args.env.now.tokens.now in
    let P : Option Param → Type 0 =
    λ o. IfThere (Made x ts param_in (param_rule by) c.args.out.now c.marked_any.new.out) o in
    subst P (sym is)
    (any_there by x ts c.args.out.now c.marked_any.new.out _ _ span (valued x ts c.args.name.now) _ ty value none
    untyped
    (c.marked_any.ensures.written e by (rw c.in-Some-Ident.field-0-is at (c.in-Some-Ident.ensures.form x ts))))

pub returns-in-Some-Array-clause-written : goal.returns-in-Some-Array-clause-written
returns-in-Some-Array-clause-written c = λ e by span ty value untyped none is.
    let x = c.args.env.now.text.now in
    let ts = c.args.env.now.tokens.now in
    kept_there by x ts c.args.out.now c.keep_there.new.self _ _ is (c.keep_there.ensures.written e x ts)
    c.keep_there.ensures.state
    (bare_stays by x ts _ _ span c.args.name.now _ ty value none untyped
    (array_stays by x ts _ _ (valued x ts c.args.name.now)
    (rw c.in-Some-Array.field-0-is at (c.in-Some-Array.ensures.form x ts))))

pub returns-in-Some-Object-clause-written : goal.returns-in-Some-Object-clause-written
returns-in-Some-Object-clause-written c = λ e by span ty value untyped none is.
    let x = c.args.env.now.text.now in
    let ts = c.args.env.now.tokens.now in
    kept_there by x ts c.args.out.now c.keep_there-in-Some-Object.new.self _ _ is
    (c.keep_there-in-Some-Object.ensures.written e x ts) c.keep_there-in-Some-Object.ensures.state
    (bare_stays by x ts _ _ span c.args.name.now _ ty value none untyped
    (object_stays by x ts _ (valued x ts c.args.name.now)
    (rw c.in-Some-Object.field-0-is at (c.in-Some-Object.ensures.form x ts))))

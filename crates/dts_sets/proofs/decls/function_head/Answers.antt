use Rattle.std.proofs.Common.{refl, true, false}
use Rattle.es_view_expressions.specs.function.Head.{the_head}
use Rattle.dts_sets.specs.Known.{function_of}
use Rattle.dts_sets.proofs.Grown.{adds_by}
use Rattle.dts_sets.proofs.Heads.{adds_plain_function, adds_typed_function}
use Rattle.dts_sets.proofs.decls.function_head.Goals as goal

-- by the view
pub returns-in-Plain-clause-adds : goal.returns-in-Plain-clause-adds
returns-in-Plain-clause-adds c = λ e r number numbered.
    let x = c.args.text.now in
    let ts = c.args.tokens.now in
    adds_by (function_of number) c.args.out.now c.own_name.new.out _ (the_head x ts r) c.args.head.now _ refl
    c.in-Plain.is
    (adds_plain_function x ts number r (record { typeofs = true; plain = false; arrays = false }) c.args.out.now
    c.own_name.new.out _ _ _ _ _ refl refl refl (c.own_name.ensures.adds e number numbered))

pub returns-in-Typed-clause-adds : goal.returns-in-Typed-clause-adds
returns-in-Typed-clause-adds c = λ e r number numbered.
    let x = c.args.text.now in
    let ts = c.args.tokens.now in
    adds_by (function_of number) c.args.out.now c.own_name-in-Typed.new.out _ (the_head x ts r) c.args.head.now _ refl
    c.in-Typed.is
    (adds_typed_function x ts number r (record { typeofs = true; plain = false; arrays = false }) c.args.out.now
    c.own_name-in-Typed.new.out _ _ _ _ _ refl refl refl (c.own_name-in-Typed.ensures.adds e number numbered))

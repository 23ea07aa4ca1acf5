use Rattle.std.proofs.Common.{refl}
use Rattle.es_view_expressions.specs.function.Class.{the_class}
use Rattle.dts_sets.specs.Known.{class_of}
use Rattle.dts_sets.proofs.Grown.{adds_by}
use Rattle.dts_sets.proofs.Heads.{adds_plain_class, adds_class_with, adds_class_without}
use Rattle.dts_sets.proofs.decls.class_head.Goals as goal

-- by the view
pub returns-in-Plain-clause-adds : goal.returns-in-Plain-clause-adds
returns-in-Plain-clause-adds c = λ e r number numbered.
    let x = c.args.text.now in
    let ts = c.args.tokens.now in
    adds_by (class_of number) c.args.out.now c.own_name.new.out _ (the_class x ts r) c.args.head.now _ refl
    c.in-Plain.is
    (adds_plain_class x ts number r c.class_flags.result c.args.out.now c.own_name.new.out _ _ _
    c.class_flags.ensures.typeofs c.class_flags.ensures.plain c.class_flags.ensures.arrays
    (c.own_name.ensures.adds e number numbered))

pub returns-in-Some-clause-adds : goal.returns-in-Some-clause-adds
returns-in-Some-clause-adds c = λ e r number numbered.
    let x = c.args.text.now in
    let ts = c.args.tokens.now in
    adds_by (class_of number) c.args.out.now c.own_name-in-Some.new.out _ (the_class x ts r) c.args.head.now _ refl
    c.in-Typed.is
    (adds_class_with x ts number r c.class_flags-in-Some.result c.args.out.now c.own_name-in-Some.new.out _ _ _ _ _ _ _
    _
    (c.in-Some.ensures.value x ts) c.class_flags-in-Some.ensures.typeofs c.class_flags-in-Some.ensures.plain
    c.class_flags-in-Some.ensures.arrays (c.own_name-in-Some.ensures.adds e number numbered))

pub returns-in-None-clause-adds : goal.returns-in-None-clause-adds
returns-in-None-clause-adds c = λ e r number numbered.
    let x = c.args.text.now in
    let ts = c.args.tokens.now in
    adds_by (class_of number) c.args.out.now c.own_name-in-None.new.out _ (the_class x ts r) c.args.head.now _ refl
    c.in-Typed.is
    (adds_class_without x ts number r c.class_flags-in-None.result c.args.out.now c.own_name-in-None.new.out _ _ _ _ _ _
    (c.in-None.ensures.value x ts) c.class_flags-in-None.ensures.typeofs c.class_flags-in-None.ensures.plain
    c.class_flags-in-None.ensures.arrays (c.own_name-in-None.ensures.adds e number numbered))

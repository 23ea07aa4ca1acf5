use Rattle.std.proofs.Common.{◌∙◌}
use Rattle.dts_module_sets.proofs.ItemForms.{adds_decl_item, adds_no_decl}
use Rattle.dts_module_sets.proofs.items.other_item.Goals as goal

-- a declaration as an item, and what is none
pub returns-then-declares-clause-adds : goal.returns-then-declares-clause-adds
returns-then-declares-clause-adds c = λ e number numbered.
    adds_decl_item number c.args.text.now c.args.tokens.now c.args.it.now c.args.out.now c.decl_sets.new.out
    c.requires.other (c.declares.ensures ∙ c.if-declares.true) (c.decl_sets.ensures.adds e number numbered)

pub returns-else-declares-clause-adds : goal.returns-else-declares-clause-adds
returns-else-declares-clause-adds c = λ e number numbered.
    adds_no_decl number c.args.text.now c.args.tokens.now c.args.it.now c.args.out.now c.requires.other
    (c.declares.ensures ∙ c.if-declares.false)

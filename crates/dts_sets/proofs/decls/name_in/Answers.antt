use Rattle.std.proofs.Common.{sym, subst}
use Rattle.es_lowering.specs.Texts.{own_name_of}
use Rattle.es_syntax.specs.Held.{held, parts_of, made}
use Rattle.es_syntax.specs.declared.entry.What.{What}
use Rattle.dts_sets.specs.Known.{Adds, own_sets}
use Rattle.dts_sets.proofs.Heads.{adds_own_token}
use Rattle.dts_sets.proofs.decls.name_in.Goals as goal

-- the token itself
pub returns-in-Leaf-clause-adds : goal.returns-in-Leaf-clause-adds
returns-in-Leaf-clause-adds c = λ e number numbered.
    let x = c.args.text.now in
    let ts = c.args.tokens.now in
    let it = c.args.it.now in
    let P : What → Type 0 = λ w.
    Adds (own_sets c.args.flags number) c.args.out.now c.token.new.self
    (own_name_of x ts (made x ts w it.from it.to (held x ts it.parts.entries.now)
    (parts_of x ts it.parts.entries.now))) in
    subst P (sym c.in-Leaf.is)
    (adds_own_token x ts number c.args.flags it.from c.args.out.now c.token.new.self
    (c.token.ensures.adds e number numbered))

use Rattle.std.specs.Result.{IfErr}
use Rattle.std.proofs.Common.{subst}
use Rattle.url.specs.Parts.{serialize}
use Rattle.grammar_theory.specs.declared.error.Lang.{Lang}
use Rattle.source_reading.specs.Tree.{modes_of}
use Rattle.source_reading.specs.Fault.{IsFaultIn, Refuses}
use Rattle.source_sites.proofs.sites.read_sites.Goals as goal

-- in the language of its media type
pub returns-clause-refused : goal.returns-clause-refused
returns-clause-refused c =
    subst (λ (l : Lang). IfErr c.read_sites_in.result (Refuses (IsFaultIn (serialize c.args.specifier.now) l
    (modes_of c.args.media_type) c.args.text.now))) c.language_of-lang.ensures c.read_sites_in.ensures.refused

use Rattle.std.proofs.Common.{◌∙◌, length, refl, sym}
use Rattle.grammar_theory.specs.Key.{keys_of}
use Rattle.es_type_rules.proofs.ends_lemmas.CloserLemmas.{none_past, none_more}
use Rattle.es_type_rules.proofs.ends.kept.last_closed.Goals as goal

pub tokens-init : goal.tokens-init
tokens-init c q behind =
    none_past c.args.tokens.now.tokens.now (length c.args.tokens.now.tokens.now) refl q behind

-- one more token was looked at
pub tokens-preserved : goal.tokens-preserved
tokens-preserved c =
    none_more (keys_of c.args.tokens.now.tokens.now) c.tokens.left c.tokens-test.true c.tokens.invariant
    (sym c.sees.ensures ∙ c.if-sees.false)

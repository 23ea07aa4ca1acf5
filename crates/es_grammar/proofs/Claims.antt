-- The tests of the table of programs bar no reading, in any language.
use Rattle.std.proofs.Common.{refl}
use Rattle.grammar_theory.specs.declared.error.Lang.{Lang}
use Rattle.grammar_theory.specs.Checks.{rule_takes, rule_parts_take}
use Rattle.grammar_theory.specs.Tells.{IsTold, none, implies, rule_starts, rule_tells}
use Rattle.grammar_theory.proofs.EachKind.{holds_everywhere, holds_of_each}
use Rattle.grammar_theory.proofs.FreeLemmas.{holds_then}
use Rattle.grammar_theory.proofs.Theorems.{IsGrammar}
use Rattle.es_grammar.specs.declared.rows.Row.TheVariants.{ModuleRow, ScriptRow}
use Rattle.es_grammar.specs.Table.{rule}
use Rattle.es_grammar.proofs.Sets.{first, follow, solid, sets}
use Rattle.es_grammar.proofs.Languages.{holds_in}
use Rattle.es_grammar.proofs.RowClaims.{rows_take, parts_take, begins, tests_tell}

pub table_told : (l : Lang) → IsTold (rule l) (sets l)
table_told l = record {
  steady = record {
    rows = λ r h. holds_in (λ m. rule_takes solid (rule m r)) (rows_take r h) l;
    parts = λ r. holds_in (λ m. rule_parts_take solid (rule m r)) (parts_take r) l;
  };
  firsts = λ r x. holds_then (rule_starts (sets l) (rule l r) none x) (first l r x)
      (holds_of_each (λ y. implies (rule_starts (sets l) (rule l r) none y) (first l r y))
      (holds_in (λ m. holds_everywhere (λ y. implies (rule_starts (sets m) (rule m r) none y) (first m r y)))
      (begins r) l) x);
  choices = λ r. holds_of_each (rule_tells (sets l) (rule l r) (follow r))
      (holds_in (λ m. holds_everywhere (rule_tells (sets m) (rule m r) (follow r))) (tests_tell r) l);
}

-- the grammar of modules, and that of scripts
pub modules : (l : Lang) → IsGrammar (rule l) (sets l) ModuleRow
modules l = record { told = table_told l; ends = refl }

pub scripts : (l : Lang) → IsGrammar (rule l) (sets l) ScriptRow
scripts l = record { told = table_told l; ends = refl }

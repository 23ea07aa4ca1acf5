use Rattle.std.specs.Prelude.{Bool, List, Result}
use Rattle.std.proofs.Common.{◌≡◌, ℕ, zero, suc, ◌-◌, refl, subst, arith}
use Rattle.grammar_theory.specs.declared.error.Lang.{Lang}
use Rattle.grammar_theory.specs.declared.error.SyntaxError.{SyntaxError}
use Rattle.grammar_theory.specs.Key.{Key}
use Rattle.es_grammar.specs.declared.rows.Row.{Row}
use Rattle.es_grammar.specs.Table.{rule}
use Rattle.es_syntax.specs.declared.entry.Entry.{Entry}
use Rattle.es_rules.specs.declared.cursor.Cursor.{Cursor}
use Rattle.es_rules.specs.Bounded.{rule_at, row_at}
use Rattle.es_rules.specs.Steps.{keys_in, IsRead}
use Rattle.es_program_reader.proofs.row_reader.rows.+read_row.Goals as goal

-- a row is read by its rule, with room for one row less below it
row_below : (keeps : Bool) (l : Lang) (K : List Key) (room : ℕ) (r : Row) (at : ℕ) (base : List Entry) (new : Cursor)
    (answer : Result ℕ SyntaxError) → (room ≡ 0 → ⊥)
    → IsRead keeps (rule_at K (row_at (rule l) K (room - 1)) (rule l r) at) base new answer
    → IsRead keeps (row_at (rule l) K room r at) base new answer
unfolding row_at
row_below keeps l K zero r at base new answer ne read = absurd (ne refl)
row_below keeps l K (suc n) r at base new answer ne read =
    let e : suc n - 1 ≡ n = omega arith in
    subst (λ room. IsRead keeps (rule_at K (row_at (rule l) K room) (rule l r) at) base new answer) e read

pub returns : goal.returns
returns t c =
    row_below c.args.input.keeps c.args.input.lang (keys_in c.args.input) c.args.room c.args.row c.args.cursor.now.at
    c.args.cursor.now.row c.read.new.cursor c.read.result c.if-room-eq0.false c.read.ensures

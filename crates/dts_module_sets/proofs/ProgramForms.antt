-- What the items of a program add, and what the sets then are.
use Rattle.std.specs.Prelude.{ℕ, Bool, false, ◌||◌, List, Option, Some, None, IfSome}
use Rattle.std.proofs.Common.{◌≡◌, refl, ap, ◌∙◌}
use Rattle.base.specs.declared.range.Range.{Range}
use Rattle.es_token.specs.declared.token.Token.{Token}
use Rattle.es_ast.specs.declared.ast.Program.{Program}
use Rattle.es_ast.specs.declared.ast.Program.TheVariants as vProgram
use Rattle.es_ast.specs.declared.ast.ModuleItem.{ModuleItem}
use Rattle.es_lowering.specs.Value.{Value, given, optional, turns, item_at, stmt_at}
use Rattle.es_lowering.specs.Texts.{shebang_at}
use Rattle.es_view_modules.specs.items.Program as program
use Rattle.dts_rules.specs.Sets.{Numbers, sets_of}
use Rattle.dts_sets.specs.declared.known.Known.{Known}
use Rattle.dts_sets.specs.Ids.{holds}
use Rattle.dts_sets.specs.Known.{Adds}
use Rattle.dts_sets.proofs.Grown.{grown_none, grown_by, given_any}
use Rattle.dts_module_sets.specs.Items.{Knows, items_of, program_sets}

module _ (x : List ℕ) (ts : List Token) (r : Range) (number : Numbers) where
  same_items : (items : List ModuleItem) → items_of number items ≡ sets_of number items
  unfolding sets_of
  same_items items = refl

  in_module : (shebang : Option (List ℕ)) (items : Option (List ModuleItem)) (old new : Known)
      → Adds (items_of number) old new items
      → Adds (program_sets number) old new
      (given items (λ body. Some (vProgram.Module (record { shebang = shebang; body = body; span = r }))))
  in_module shebang None old new a = record { added = tt }
  in_module shebang (Some items) old new a = record {
    added = grown_by old new (items_of number items) (sets_of number items) (same_items items) a.added;
  }

  pub adds_module : (shebang body : Value) (old new : Known)
      → Adds (items_of number) old new (turns (λ turn. item_at turn 0) body)
      → Adds (program_sets number) old new (program.module_of x ts r shebang body)
  unfolding program.module_of
  adds_module shebang body old new a =
      given_any (program_sets number) (optional (shebang_at x ts) shebang) (λ s.
      in_module s (turns (λ turn. item_at turn 0) body) old new a)

  pub adds_script : (shebang body : Value) (it : Known)
      → Adds (program_sets number) it it (program.script_of x ts r shebang body)
  unfolding program.script_of
  adds_script shebang body it =
      given_any (program_sets number) (optional (shebang_at x ts) shebang) (λ s.
      given_any (program_sets number) (turns (λ turn. stmt_at turn 0) body) (λ b. record { added = grown_none it }))

-- ---- from no names
or_none : (a b c : Bool) → a ≡ (b || c) → b ≡ false → a ≡ c
or_none a b c e none = e ∙ ap (λ b. b || c) none

pub knows : (number : Numbers) (o : Option Program) (old new : Known)
    → ((q : List ℕ) (n : ℕ) → holds old.typeofs (q, n) ≡ false)
    → ((q : List ℕ) (n : ℕ) → holds old.plain (q, n) ≡ false)
    → ((q : List ℕ) (n : ℕ) → holds old.arrays (q, n) ≡ false) → Adds (program_sets number) old new o
    → IfSome o (λ it. Knows new (program_sets number it))
knows number None old new typeofs plain arrays a = tt
knows number (Some it) old new typeofs plain arrays a = record {
  typeofs = λ id. or_none _ _ _ (a.added.typeofs id) (typeofs id.0 id.1);
  plain = λ id. or_none _ _ _ (a.added.plain id) (plain id.0 id.1);
  arrays = λ id. or_none _ _ _ (a.added.arrays id) (arrays id.0 id.1);
}

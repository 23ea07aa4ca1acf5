-- What declarations are by the rules.
use Rattle.std.specs.Prelude.{◌≡◌, Bool, true, false, Some, None}
use Rattle.base.specs.declared.range.Range.{Range}
use Rattle.es_ast.specs.declared.ast.Decl.{Decl}
use Rattle.dts_rules.specs.declared.found.FoundKind.TheVariants as kind
use Rattle.dts_rules.specs.Rules.{Env, ShownDecl, State, note}
use Rattle.dts_rules.specs.Programs.{shown_decl}
use Rattle.dts_items.specs.declared.sorts.Sort.{Sort}
use Rattle.dts_items.specs.declared.sorts.Sort.TheVariants as sort

-- a function that a list of ranges may name, a type, `using`, or any other
abbrev pub Shows : Sort → Range → Decl → ShownDecl → Type 0
Shows sort.Function span d it = (it.is_function ≡ true) × (it.stays ≡ false)
Shows sort.Type span d it =
    (it.is_function ≡ false) × (it.stays ≡ true)
    × ((top : Bool) (s : State) → it.declared top s ≡ (Some d, s))
Shows sort.Using span d it =
    (it.is_function ≡ false) × (it.stays ≡ true)
    × ((top : Bool) (s : State) → it.declared top s ≡ (None, note kind.UnsupportedUsing span s))
Shows sort.Other span d it = (it.is_function ≡ false) × (it.stays ≡ false)

pub record Sorted (it : Sort) (span : Range) (d : Decl) : Type 0 where
  pub span_is : (by : Env) → (shown_decl by d).span ≡ span
  pub shows : (by : Env) → Shows it span d (shown_decl by d)

-- A part that no view of names in braces knows is no such name.
use Rattle.std.specs.Prelude.{ℕ, List, None}
use Rattle.std.proofs.Common.{◌≡◌, refl, false}
use Rattle.base.specs.declared.range.Range.{Range}
use Rattle.es_token.specs.declared.token.Token.{Token}
use Rattle.es_grammar.specs.declared.rows.NodeKind.{NodeKind}
use Rattle.es_grammar.specs.declared.rows.NodeKind.TheVariants as l
use Rattle.es_lowering.specs.Value.{Value}
use Rattle.es_lowering.specs.Lowering.{same_label, build, export_specifier_of}
use Rattle.es_syntax.specs.declared.cursor.Item.{Item}
use Rattle.es_syntax.specs.Held.{valued}
use Rattle.es_syntax.specs.Roles.{export_specifier_in}
use Rattle.es_syntax.specs.Views.{IsNone, is_one_of}
use Rattle.es_view_modules.specs.names.ExportSpecifier.{export_specifiers}
use Rattle.es_bound_names.specs.Names.{Names}
use Rattle.es_bound_names.specs.Adds.{Adds}
use Rattle.es_bound_names.proofs.Lists.{adds_nothing}
use Rattle.es_bound_names.proofs.Others.{past, no_role}
use Rattle.es_exports.specs.Exports.{outer_name}

module _ (x : List ℕ) (ts : List Token) where
  specifier_node : (label : NodeKind) (from : ℕ) (r : Range) (p : Value)
      → is_one_of export_specifiers label ≡ false → (build x ts label from r p).export_specifier ≡ None
  unfolding build export_specifier_of
  specifier_node label from r p e = past (same_label label l.ExportedName) _ _ _ e (λ e. refl)

  pub unknown : (i : Item) (old : Names) → IsNone export_specifiers i.what
      → Adds outer_name old old (export_specifier_in (valued x ts i))
  unknown i old e =
      adds_nothing outer_name old old _
      (no_role x ts (λ m. m.export_specifier) export_specifiers specifier_node refl refl (λ e. refl) i.what i.from
      i.to i.parts.entries.now e)

-- What tokens add that are names or strings.
use Rattle.std.specs.Prelude.{ℕ, Bool, true, false, List, [], ◌∷◌, ◌++◌, slice_range, Option, Some, None, if◌then◌else◌}
use Rattle.std.specs.Option.{option_map}
use Rattle.std.proofs.Common.{◌≡◌, refl, sym, ap, subst, ◌∙◌}
use Rattle.std.proofs.lemmas.List.{append-nil}
use Rattle.es_token.specs.declared.token.Token.{Token}
use Rattle.es_token.specs.declared.token.TokenKind.TheVariants as k
use Rattle.grammar_theory.specs.Key.{same_kind}
use Rattle.es_literal.specs.Values.{value_of}
use Rattle.es_ast.specs.declared.leaf.ModuleExportName.{ModuleExportName}
use Rattle.es_ast.specs.declared.leaf.ModuleExportName.TheVariants as vName
use Rattle.es_lowering.specs.Value.{Value, nil, more, as_group}
use Rattle.es_lowering.specs.Texts.{ident_of, str_of, name_of, name_at}
use Rattle.es_bound_names.specs.Names.{Names, ident_names}
use Rattle.es_bound_names.specs.Adds.{Adds}
use Rattle.es_exports.specs.Exports.{export_name, all_as}
use Rattle.es_exports.specs.Parts.{str_names}
use Rattle.es_exports.specs.Named.{named_as}

pub adds_str : (x : List ℕ) (o : Option Token) (t : Token) (old new : Names) → Some t ≡ o
    → new ≡ old ++ value_of (slice_range x t.range.start t.range.end) ∷ []
    → Adds str_names old new (option_map (str_of x) o)
unfolding str_of
adds_str x o t old new is e =
    subst (λ (p : Option Token). Adds str_names old new (option_map (str_of x) p)) is (record { added = e })

module _ (x : List ℕ) where
  by_str : (b : Bool) (t : Token) → b ≡ true → (old new : Names) → Adds str_names old new (Some (str_of x t))
      → Adds export_name old new (Some (if b then vName.Str (str_of x t) else vName.Ident (ident_of x t)))
  by_str true t e old new a = record { added = a.added }
  by_str false t e old new a = let bad : ⊥ = cc in absurd bad

  by_name : (b : Bool) (t : Token) → b ≡ false → (old new : Names) → Adds ident_names old new (Some (ident_of x t))
      → Adds export_name old new (Some (if b then vName.Str (str_of x t) else vName.Ident (ident_of x t)))
  by_name true t e old new a = let bad : ⊥ = cc in absurd bad
  by_name false t e old new a = record { added = a.added }

  pub adds_string : (o : Option Token) (t : Token) (old new : Names) → Some t ≡ o → same_kind t.kind k.Str ≡ true
      → Adds str_names old new (option_map (str_of x) o) → Adds export_name old new (option_map (name_of x) o)
  unfolding name_of
  adds_string o t old new is e a =
      subst (λ (p : Option Token). Adds export_name old new (option_map (name_of x) p)) is
      (by_str (same_kind t.kind k.Str) t e old new
      (subst (λ (p : Option Token). Adds str_names old new (option_map (str_of x) p)) (sym is) a))

  pub adds_name : (o : Option Token) (t : Token) (old new : Names) → Some t ≡ o → same_kind t.kind k.Str ≡ false
      → Adds ident_names old new (option_map (ident_of x) o) → Adds export_name old new (option_map (name_of x) o)
  unfolding name_of
  adds_name o t old new is e a =
      subst (λ (p : Option Token). Adds export_name old new (option_map (name_of x) p)) is
      (by_name (same_kind t.kind k.Str) t e old new
      (subst (λ (p : Option Token). Adds ident_names old new (option_map (ident_of x) p)) (sym is) a))

-- ---- a name behind `as`
module _ (x : List ℕ) (ts : List Token) where
  pub adds_no_as : (v : Value) (old : Names) → v ≡ nil → Adds all_as old old (named_as x ts v)
  unfolding named_as
  adds_no_as v old e =
      subst (λ (w : Value). Adds all_as old old (named_as x ts w)) (sym e) (record { added = sym (append-nil old) })

  some_name : (o : Option ModuleExportName) (old new : Names) → Adds export_name old new o
      → Adds all_as old new (option_map Some o)
  some_name None old new a = record { added = tt }
  some_name (Some name) old new a = record { added = a.added }

  pub adds_as : (v u us : Value) (old new : Names) → v ≡ more u us
      → Adds export_name old new (name_at x ts (as_group u) 0) → Adds all_as old new (named_as x ts v)
  unfolding named_as
  adds_as v u us old new e a =
      subst (λ (w : Value). Adds all_as old new (named_as x ts w)) (sym e)
      (some_name (name_at x ts (as_group u) 0) old new a)

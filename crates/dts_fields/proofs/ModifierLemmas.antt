-- Modifiers without `declare`.
use Rattle.std.specs.Prelude.{ℕ, ◌||◌, Bool, true, false, List, [], ◌∷◌, ◌++◌, Option, Some, None, option_map, length, IfSome, slice_get}
use Rattle.std.proofs.Common.{◌≡◌, refl, sym, ap, subst, ◌∙◌}
use Rattle.es_token.specs.declared.token.Token.{Token}
use Rattle.es_token.specs.declared.token.TokenKind.{TokenKind}
use Rattle.es_token.specs.declared.token.TokenKind.TheVariants as k
use Rattle.grammar_theory.specs.Key.{same_kind}
use Rattle.es_ast.specs.declared.leaf.Modifiers.{Modifiers}
use Rattle.es_lowering.specs.Value.{Value, nil, more, given, as_group}
use Rattle.es_lowering.specs.Lowering.{packed}
use Rattle.es_lowering.specs.Texts.{token_at}
use Rattle.es_lowering.specs.TypedParts.{modifiers_in, with_modifier, access_of}
use Rattle.es_syntax.specs.declared.entry.What.TheVariants as vWhat
use Rattle.es_changed.specs.declared.entry.Change.TheVariants as change
use Rattle.es_changed.specs.declared.entry.ChangedEntry.{ChangedEntry}
use Rattle.es_changed.specs.Shape.{closed, opened, Writes}
use Rattle.es_changed.proofs.Written.{nothing_written, both_written, group_written}
use Rattle.dts_rules.specs.Rules.{undeclared}
use Rattle.dts_draft.specs.Drafts.{is_kind}
use Rattle.dts_draft.proofs.Lists.{as_packed}
use Rattle.dts_leaves.proofs.Words.{kind_of}
use Rattle.dts_fields.specs.Fields.{AreUndeclared, Undeclares, UndeclaredGroup, TurnUndeclares}

-- ---- one modifier
-- `declare` changes nothing else
declare_goes : (m : Modifiers) → undeclared (with_modifier k.DeclareWord m) ≡ undeclared m
unfolding with_modifier access_of
declare_goes m = refl

-- any other stays
other_stays : (kind : TokenKind) (m : Modifiers) → same_kind kind k.DeclareWord ≡ false
    → with_modifier kind (undeclared m) ≡ undeclared (with_modifier kind m)
unfolding with_modifier
other_stays kind m e = ap (λ (b : Bool). record {
  accessibility = access_of kind m.accessibility;
  is_static = same_kind kind k.StaticWord || m.is_static;
  is_abstract = same_kind kind k.AbstractWord || m.is_abstract;
  is_override = same_kind kind k.OverrideWord || m.is_override;
  readonly = same_kind kind k.ReadonlyWord || m.readonly;
  declare = b || false;
  accessor = m.accessor;
}) e

module _ (x : List ℕ) (ts : List Token) where
  -- one turn more
  pub turn_gone : (old new : List ChangedEntry) (turn g : Value) (at : ℕ) → g ≡ as_group turn
      → token_at ts g 0 ≡ slice_get ts at → is_kind k.DeclareWord (slice_get ts at) ≡ true → Writes x ts old new []
      → TurnUndeclares x ts old new turn
  turn_gone old new turn g at same there is w = record {
    values = [];
    writes = w;
    are = λ rest us known before.
        subst (λ (o : Option Token). IfSome
        (given (option_map (λ t. t.kind) o) (λ kind. modifiers_in ts (with_modifier kind before) rest))
        (λ m. modifiers_in ts (undeclared before) (packed us) ≡ Some (undeclared m)))
        (sym there ∙ ap (λ (g : Value). token_at ts g 0) same) (go (slice_get ts at) is rest (packed us) known before);
  }
    where
      go : (o : Option Token) → is_kind k.DeclareWord o ≡ true → (rest after : Value) → AreUndeclared x ts rest after
          → (before : Modifiers) → IfSome
          (given (option_map (λ t. t.kind) o) (λ kind. modifiers_in ts (with_modifier kind before) rest))
          (λ m. modifiers_in ts (undeclared before) after ≡ Some (undeclared m))
      go None is rest after known before = tt
      go (Some t) is rest after known before =
          subst (λ (kind : TokenKind). IfSome (modifiers_in ts (with_modifier kind before) rest)
          (λ m. modifiers_in ts (undeclared before) after ≡ Some (undeclared m))) (sym (kind_of k.DeclareWord t is))
          (subst (λ (b : Modifiers). IfSome (modifiers_in ts (with_modifier k.DeclareWord before) rest)
          (λ m. modifiers_in ts b after ≡ Some (undeclared m))) (declare_goes before)
          (known (with_modifier k.DeclareWord before)))

  pub turn_kept : (old new : List ChangedEntry) (turn g : Value) (at : ℕ) → g ≡ as_group turn
      → token_at ts g 0 ≡ slice_get ts at → is_kind k.DeclareWord (slice_get ts at) ≡ false
      → Writes x ts old new (turn ∷ []) → TurnUndeclares x ts old new turn
  turn_kept old new turn g at same there is w = record {
    values = turn ∷ [];
    writes = w;
    are = λ rest us known before.
        subst (λ (o : Option Token). IfSome
        (given (option_map (λ t. t.kind) o) (λ kind. modifiers_in ts (with_modifier kind before) rest))
        (λ m. given (option_map (λ t. t.kind) o)
        (λ kind. modifiers_in ts (with_modifier kind (undeclared before)) (packed us)) ≡ Some (undeclared m)))
        (sym there ∙ ap (λ (g : Value). token_at ts g 0) same) (go (slice_get ts at) is rest (packed us) known before);
  }
    where
      go : (o : Option Token) → is_kind k.DeclareWord o ≡ false → (rest after : Value) → AreUndeclared x ts rest after
          → (before : Modifiers) → IfSome
          (given (option_map (λ t. t.kind) o) (λ kind. modifiers_in ts (with_modifier kind before) rest))
          (λ m. given (option_map (λ t. t.kind) o)
          (λ kind. modifiers_in ts (with_modifier kind (undeclared before)) after) ≡ Some (undeclared m))
      go None is rest after known before = tt
      go (Some t) is rest after known before =
          subst (λ (b : Modifiers). IfSome (modifiers_in ts (with_modifier t.kind before) rest)
          (λ m. modifiers_in ts b after ≡ Some (undeclared m))) (sym (other_stays t.kind before is))
          (known (with_modifier t.kind before))

  -- ---- what is left leads to all
  pub record ModifiersLeft (start now : List ChangedEntry) (all left : Value) : Type 0 where
    pub leads : (new : List ChangedEntry) → Undeclares x ts now new left → Undeclares x ts start new all

  pub undeclares_all : (start : List ChangedEntry) (all : Value) → ModifiersLeft start start all all
  undeclares_all start all = record { leads = λ new u. u }

  pub undeclares_next : (start now next : List ChangedEntry) (all left v rest : Value) → left ≡ more v rest
      → ModifiersLeft start now all left → TurnUndeclares x ts now next v → ModifiersLeft start next all rest
  undeclares_next start now next all left v rest e before t = record {
    leads = λ new u.
        before.leads new (record {
          values = t.values ++ u.values;
          writes = both_written x ts now next new t.values u.values t.writes u.writes;
          are = subst (λ (w : Value). AreUndeclared x ts w (packed (t.values ++ u.values))) (sym e)
              (t.are rest u.values u.are);
        });
  }

  pub undeclares_done : (start now : List ChangedEntry) (all left : Value) → left ≡ nil
      → ModifiersLeft start now all left → Undeclares x ts start now all
  undeclares_done start now all left e before =
      before.leads now (record {
        values = [];
        writes = nothing_written x ts now;
        are = subst (λ (w : Value). AreUndeclared x ts w nil) (sym e) (λ before. refl);
      })

  pub undeclared_group : (old begun mid new : List ChangedEntry) (place : ℕ) (row all : Value) → begun ≡ old ++ opened
      → place ≡ length old → row ≡ all → Undeclares x ts begun mid row
      → new ≡ closed (change.Old vWhat.Parts) 0 0 place mid → UndeclaredGroup x ts old new all
  undeclared_group old begun mid new place row all eo ep same u e = record {
    it = packed u.values;
    writes = group_written x ts 0 0 place old begun mid new u.values eo ep u.writes e;
    are = subst (λ (w : Value). AreUndeclared x ts w (as_group (packed u.values))) same
        (subst (λ (w : Value). AreUndeclared x ts row w) (sym (as_packed u.values)) u.are);
  }

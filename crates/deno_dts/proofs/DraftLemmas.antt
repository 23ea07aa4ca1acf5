-- What a draft of the declarations of a program holds.
use Rattle.std.specs.Prelude.{ℕ, List, [], ◌∷◌, Option, Some, None, IfSome}
use Rattle.std.proofs.Common.{◌≡◌, refl, sym, ap, subst, ◌∙◌}
use Rattle.std.proofs.lemmas.List.{append-nil}
use Rattle.base.specs.declared.range.Range.{Range}
use Rattle.es_token.specs.declared.token.Token.{Token}
use Rattle.es_ast.specs.declared.ast.Program.{Program}
use Rattle.es_lowering.specs.Value.{Value, part}
use Rattle.es_lowering.specs.Lowering.{packed}
use Rattle.es_syntax.specs.Held.{Held, row_of}
use Rattle.es_syntax.specs.Roles.{program_in}
use Rattle.es_changed.specs.declared.entry.ChangedEntry.{ChangedEntry}
use Rattle.es_changed.specs.Changed.{held_in, parts_in}
use Rattle.es_changed.specs.Shape.{Writes}
use Rattle.es_changed.proofs.Rows.{parts_shape}
use Rattle.dts_rules.specs.declared.found.Found.{Found}
use Rattle.dts_rules.specs.Rules.{Env, State}
use Rattle.dts_rules.specs.Sets.{Numbers}
use Rattle.dts_rules.specs.Programs.{declared, with_sets}
use Rattle.dts_laws.specs.Appends.{moved}
use Rattle.dts_laws.proofs.Theorems.{program_appends}
use Rattle.dts_draft.specs.declared.draft.Draft.{Draft}
use Rattle.dts_draft.specs.Drafts.{state_of}
use Rattle.dts_draft.specs.Written.{IfThere}
use Rattle.dts_sets.specs.declared.known.Known.{Known}
use Rattle.dts_sets.specs.Ids.{Numbered}
use Rattle.dts_module_sets.specs.Items.{program_sets, Knows as KnowsSets}
use Rattle.dts_names.specs.declared.env.Env as names
use Rattle.dts_names.specs.Names.{Knows}
use Rattle.dts_parts.specs.Params.{Made}
use Rattle.deno_dts.specs.Drafted.{env_with, state_after, DraftIs}

module _ (x : List ℕ) (ts : List Token) where
  -- a row of one written value
  held_one : (row : List ChangedEntry) (v : Value) → Writes x ts [] row (v ∷ []) → part (held_in x ts row) 0 ≡ v
  unfolding held_in
  held_one row v w =
      ap (λ (row : List ChangedEntry). part (row_of x ts (parts_in x ts row)) 0) w.row
      ∙ (ap (λ (ps : List Held). part (row_of x ts ps) 0) (parts_shape x ts w.shape)
      ∙ ap (λ (vs : List Value). part (packed vs) 0) w.are)

  pub draft_is : (env : Env) (made : ℕ) (start draft : Draft) (it : Program) → start.row ≡ []
      → state_of start ≡ state_after [] made → Made x ts program_in (declared env) start draft it
      → DraftIs x ts env made draft it
  draft_is env made start draft it er es m =
      let w : Writes x ts [] draft.row (m.puts.value ∷ []) =
      subst (λ (row : List ChangedEntry). Writes x ts row draft.row (m.puts.value ∷ [])) er m.puts.writes in
      record {
        state = m.state ∙ ap (λ (s : State). (declared env it s).1) es;
        tree = ap program_in (held_one draft.row m.puts.value w)
            ∙ (m.puts.is ∙ ap (λ (s : State). Some (declared env it s).0) es);
      }

-- the sets that are known are those that the rules go by
knows : (it : names.Env) (number : Numbers) (ranges : List Range) (p : Program)
    → Numbered it.tokens.now it.ids.now number → KnowsSets it.known.now (program_sets number p)
    → Knows it (with_sets (env_with number it.unresolved ranges) (program_sets number p))
knows it number ranges p n k = record {
  numbers = n;
  unresolved = refl;
  typeofs = λ id. sym (k.typeofs id);
  plain = λ id. sym (k.plain id);
  arrays = λ id. sym (k.arrays id);
  names = λ n. refl;
}

pub known_draft : (it : names.Env) (number : Numbers) (ranges : List Range) (made : ℕ) (draft : Draft)
    (o : Option Program)
    → Numbered it.tokens.now it.ids.now number → IfThere (λ p. KnowsSets it.known.now (program_sets number p)) o
    → IfThere (λ p. Knows it (with_sets (env_with number it.unresolved ranges) (program_sets number p))
    → DraftIs it.text.now it.tokens.now (env_with number it.unresolved ranges) made draft p) o
    → IfThere (DraftIs it.text.now it.tokens.now (env_with number it.unresolved ranges) made draft) o
known_draft it number ranges made draft None n k h = record { is = tt }
known_draft it number ranges made draft (Some p) n k h = record { is = h.is (knows it number ranges p n k.is) }

pub sets_there : (known : Known) (number : Numbers) (o q : Option Program) → q ≡ o
    → IfSome o (λ it. KnowsSets known (program_sets number it))
    → IfThere (λ it. KnowsSets known (program_sets number it)) q
sets_there known number o q e h =
    subst (IfThere (λ it. KnowsSets known (program_sets number it))) (sym e) (record { is = h })

pub with_draft : (it : names.Env) (by : Env) (made : ℕ) (start draft : Draft) (o : Option Program) → start.row ≡ []
    → state_of start ≡ state_after [] made
    → IfThere (λ p. Knows it (with_sets by (program_sets by.number p))
    → Made it.text.now it.tokens.now program_in (declared by) start draft p) o
    → IfThere (λ p. Knows it (with_sets by (program_sets by.number p))
    → DraftIs it.text.now it.tokens.now by made draft p) o
with_draft it by made start draft None er es h = record { is = tt }
with_draft it by made start draft (Some p) er es h = record {
  is = λ k. draft_is it.text.now it.tokens.now by made start draft p er es (h.is k);
}

pub started : (start : Draft) (made : ℕ) → start.found.items ≡ [] → start.made ≡ made
    → state_of start ≡ state_after [] made
started start made ef em =
    ap (λ (f : List Found). state_after f start.made) ef ∙ ap (λ (n : ℕ). state_after [] n) em

-- the declarations of a program that was read, from their draft
pub tree_is : (x u : List ℕ) (ts us : List Token) (env : Env) (made : ℕ) (draft : Draft) (row : List ChangedEntry)
    (o : Option Program) (p : Program) → o ≡ Some p → IfThere (DraftIs x ts env made draft) o → u ≡ x → us ≡ ts
    → row ≡ draft.row
    → program_in (part (held_in u us row) 0) ≡ Some (declared env p (state_after [] made)).0
tree_is x u ts us env made draft row o p e h eu es er =
    let d : IfThere (DraftIs x ts env made draft) (Some p) = subst (IfThere (DraftIs x ts env made draft)) e h in
    ap (λ (u : List ℕ). program_in (part (held_in u us row) 0)) eu
    ∙ (ap (λ (us : List Token). program_in (part (held_in x us row) 0)) es
    ∙ (ap (λ (row : List ChangedEntry). program_in (part (held_in x ts row) 0)) er ∙ d.is.tree))

pub state_is : (x : List ℕ) (ts : List Token) (env : Env) (made : ℕ) (draft : Draft) (o : Option Program) (p : Program)
    (f : List Found) (n : ℕ) → o ≡ Some p → IfThere (DraftIs x ts env made draft) o → f ≡ draft.found.items
    → n ≡ draft.made → state_after f n ≡ (declared env p (state_after [] made)).1
state_is x ts env made draft o p f n e h ef en =
    let d : IfThere (DraftIs x ts env made draft) (Some p) = subst (IfThere (DraftIs x ts env made draft)) e h in
    ap (λ (f : List Found). state_after f n) ef ∙ (ap (λ (n : ℕ). state_after draft.found.items n) en ∙ d.is.state)

-- ---- after what was found before
pub after_found : (env : Env) (p : Program) (f : List Found) (n : ℕ)
    → declared env p (state_after f n) ≡ moved f (declared env p (state_after [] n))
after_found env p f n =
    ap (λ (f : List Found). declared env p (state_after f n)) (sym (append-nil f))
    ∙ program_appends env p f (state_after [] n)

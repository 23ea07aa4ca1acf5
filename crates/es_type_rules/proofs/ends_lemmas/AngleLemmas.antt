-- What is kept of a row at a place tells what the reader answers there, and the other way round.
use Rattle.std.specs.Prelude.{List, Bool, true, false, is_some, leb, Option, Some, None, Result, Ok, Err, if◌then◌else◌}
use Rattle.std.proofs.Common.{◌≡◌, ℕ, zero, suc, ◌-◌, ◌≤◌, length, refl, sym, ap, ◌∙◌, subst, arith}
use Rattle.grammar_theory.specs.declared.error.SyntaxError.{SyntaxError}
use Rattle.grammar_theory.specs.Key.{Key}
use Rattle.grammar_theory.specs.Plain.{Plain, plain, none_leans, tall}
use Rattle.grammar_theory.specs.Fits.{most_nodes}
use Rattle.grammar_theory.specs.Reader.{Out, nothing, gives, either, only_if, read_row}
use Rattle.grammar_theory.proofs.OutLemmas.{clash, nothing_gives, gives_same}
use Rattle.es_grammar.specs.declared.types.rows.TypeRow.{TypeRow}
use Rattle.es_grammar.specs.types.TypeRows.{NodeKind}
use Rattle.es_grammar.specs.types.TypeTable.{type_rule}
use Rattle.es_lookahead.specs.declared.ends.End.{End}
use Rattle.es_lookahead.specs.declared.ends.Angle.{Angle}
use Rattle.es_lookahead.specs.Ends.{end_of, row_end, AreRight, end_in}
use Rattle.es_lookahead.proofs.EndLemmas.{known}
use Rattle.es_grammar.specs.declared.cst.tree.Cst.{Cst}
use Rattle.es_grammar.specs.cst.Slim.{Kept, one}
use Rattle.es_syntax.specs.declared.entry.Entry.{Entry}
use Rattle.es_syntax.specs.Forest.{Keeps}
use Rattle.es_syntax.proofs.Forests.{keeps_all}
use Rattle.es_rules.specs.declared.cursor.Cursor.{Cursor}
use Rattle.es_rules.specs.Bounded.{Read, rule_at, row_at}
use Rattle.es_rules.specs.Steps.{single, IsRead, IsTelling}
use Rattle.es_rules.proofs.OneLemmas.{row_one}
use Rattle.es_type_rules.specs.ends.Derived.{named_rule}
use Rattle.es_type_rules.specs.ends.Kept.{kept_at, kept_or}
use Rattle.es_type_rules.specs.ends.Angles.{is_kept}
use Rattle.es_type_rules.proofs.ends_lemmas.KeptLemmas.{kept_same}
use Rattle.es_type_rules.proofs.ends_lemmas.LowLemmas.{low, is_low, read_of, row_low}

none_some : {A X : Type 0} (x : X) → None ≡ Some x → A
none_some x e = absurd (let bad : ⊥ = cc in bad)

same_end : (a b : End) → Some a ≡ Some b → a ≡ b
same_end a b e = cc

-- an end, and what is read, of their parts
abbrev pub end_at : ℕ → ℕ → End
end_at to height = record { to = to; height = height }

abbrev read_as : Kept → ℕ → Read
read_as value height = record { value = value; height = height }

read_same : (v : Read) (t : Cst) (h : ℕ) → v.value ≡ one t → v.height ≡ h → v ≡ single t h
read_same v t h value height =
    ap (λ k. read_as k v.height) value ∙ ap (λ n. read_as (one t) n) height

-- ---- of one answer

kept_of : (o : Out (Plain NodeKind)) (end : End) → end_of o ≡ Some end
    → (v : Read) × (low o ≡ gives v end.to) × (v.height ≡ end.height)
kept_of nothing end e = none_some end e
kept_of (gives p to) end e = go (leb (tall none_leans p) most_nodes) refl e
  where
    go : (b : Bool) → leb (tall none_leans p) most_nodes ≡ b
        → (if b then Some (end_at to (tall none_leans p)) else None) ≡ Some end
        → (v : Read) × (low (gives p to) ≡ gives v end.to) × (v.height ≡ end.height)
    go true small e =
        let same : end_at to (tall none_leans p) ≡ end = same_end (end_at to (tall none_leans p)) end e in (
          read_of p,
          ap (λ b. only_if b (gives (read_of p) to)) small
              ∙ ap (λ (u : End). gives (read_of p) u.to) same,
          ap (λ (u : End). u.height) same,
        )
    go false small e = none_some end e

none_of : (o : Out (Plain NodeKind)) → end_of o ≡ None → low o ≡ nothing
none_of nothing e = refl
none_of (gives p to) e = go (leb (tall none_leans p) most_nodes) refl e
  where
    go : (b : Bool) → leb (tall none_leans p) most_nodes ≡ b
        → (if b then Some (end_at to (tall none_leans p)) else None) ≡ None → low (gives p to) ≡ nothing
    go true small e = none_some (end_at to (tall none_leans p)) (sym e)
    go false small e = ap (λ b. only_if b (gives (read_of p) to)) small

read_end : (o : Out (Plain NodeKind)) (v : Read) (to : ℕ) → low o ≡ gives v to → end_of o ≡ Some (end_at to v.height)
read_end nothing v to e = nothing_gives v to e
read_end (gives p at) v to e = go (leb (tall none_leans p) most_nodes) refl e
  where
    go : (b : Bool) → leb (tall none_leans p) most_nodes ≡ b → only_if b (gives (read_of p) at) ≡ gives v to
        → end_of (gives p at) ≡ Some (end_at to v.height)
    go true small e =
        let same = gives_same (read_of p) v at to e in
        ap (λ b. if b then Some (end_at at (tall none_leans p)) else None) small
        ∙ (ap (λ n. Some (end_at n (tall none_leans p))) same.1 ∙ ap (λ (u : Read). Some (end_at to u.height)) same.0)
    go false small e = nothing_gives v to e

end_none : (o : Out (Plain NodeKind)) → low o ≡ nothing → end_of o ≡ None
end_none nothing e = refl
end_none (gives p at) e = go (leb (tall none_leans p) most_nodes) refl e
  where
    go : (b : Bool) → leb (tall none_leans p) most_nodes ≡ b → only_if b (gives (read_of p) at) ≡ nothing
        → end_of (gives p at) ≡ None
    go true small e = nothing_gives (read_of p) at (sym e)
    go false small e = ap (λ b. if b then Some (end_at at (tall none_leans p)) else None) small

-- ---- of a row

module _ (K : List Key) (r : TypeRow) (at : ℕ) where
  pub row_kept : (end : End) → row_end r K at ≡ Some end
      → (t : Cst) × (row_at named_rule K most_nodes r at ≡ gives (single t end.height) end.to)
  unfolding row_end
  row_kept end e =
      let o = read_row plain K type_rule most_nodes r at in
      let found = kept_of o end e in
      let read : row_at named_rule K most_nodes r at ≡ gives found.0 end.to = row_low K most_nodes r at ∙ found.1 in
      let tree = (row_one named_rule K most_nodes r at).tree found.0 end.to read in (
        tree.0,
        read ∙ ap (λ v. gives v end.to) (read_same found.0 tree.0 end.height tree.1 found.2),
      )

  pub row_nothing : row_end r K at ≡ None → row_at named_rule K most_nodes r at ≡ nothing
  unfolding row_end
  row_nothing e = row_low K most_nodes r at ∙ none_of (read_row plain K type_rule most_nodes r at) e

  pub row_ends : (t : Cst) (h to : ℕ) → row_at named_rule K most_nodes r at ≡ gives (single t h) to
      → row_end r K at ≡ Some (end_at to h)
  unfolding row_end
  row_ends t h to e =
      read_end (read_row plain K type_rule most_nodes r at) (single t h) to (sym (row_low K most_nodes r at) ∙ e)

  pub row_ends_nowhere : row_at named_rule K most_nodes r at ≡ nothing → row_end r K at ≡ None
  unfolding row_end
  row_ends_nowhere e =
      end_none (read_row plain K type_rule most_nodes r at) (sym (row_low K most_nodes r at) ∙ e)

-- ---- of a row behind, by a list of angles

module _ (K : List Key) (angles : List Angle) (rights : AreRight K angles) (room : ℕ) (r : TypeRow) (at : ℕ) where
  by_found : (o : Option (Option End)) → end_in angles r at ≡ o
      → kept_or K (is_kept angles) room r at
      ≡ either (is_some o) (row_at named_rule K most_nodes r at) (kept_at K (is_kept angles) room r at)
  by_found o e =
      ap (λ o. either (is_some o) (row_at named_rule K most_nodes r at) (kept_at K (is_kept angles) room r at)) e

  pub ring_kept : (end : End) → end_in angles r at ≡ Some (Some end)
      → (t : Cst) × (kept_or K (is_kept angles) room r at ≡ gives (single t end.height) end.to)
  ring_kept end e =
      let row = row_kept K r at end (known K angles r at (Some end) rights e) in
      (row.0, by_found (Some (Some end)) e ∙ row.1)

  pub ring_nothing : end_in angles r at ≡ Some None → kept_or K (is_kept angles) room r at ≡ nothing
  ring_nothing e = by_found (Some None) e ∙ row_nothing K r at (known K angles r at None rights e)

  pub ring_anew : end_in angles r at ≡ None
      → kept_or K (is_kept angles) room r at ≡ kept_at K (is_kept angles) room r at
  ring_anew e = by_found None e

-- ---- answers of readers that keep no entries

silent_read : (keeps : Bool) (out : Out Read) (old : List Entry) (new : Cursor) (t : Cst) (h : ℕ) → keeps ≡ false
    → new.row ≡ old → out ≡ gives (single t h) new.at → IsRead keeps out old new (Ok h)
silent_read true out old new t h silent same e = clash (sym silent)
silent_read false out old new t h silent same e = (t, same, e)

silent_refused : (keeps : Bool) (out : Out Read) (old : List Entry) (new : Cursor) (e : SyntaxError)
    → new.row ≡ old → out ≡ nothing → IsRead keeps out old new (Err e)
silent_refused keeps out old new e same none =
    (subst (λ es. Keeps old es) (sym same) (keeps_all old), λ telling. none)

-- what is kept of a row is answered
pub kept_read : (keeps : Bool) (K : List Key) (angles : List Angle) (room : ℕ) (r : TypeRow) (at : ℕ) (end : End)
    (old : List Entry) (new : Cursor) → AreRight K angles → keeps ≡ false → end_in angles r at ≡ Some (Some end)
    → new.row ≡ old → new.at ≡ end.to
    → IsRead keeps (kept_or K (is_kept angles) room r at) old new (Ok end.height)
kept_read keeps K angles room r at end old new rights silent found same place =
    let row = ring_kept K angles rights room r at end found in
    silent_read keeps (kept_or K (is_kept angles) room r at) old new row.0 end.height silent same
    (row.1 ∙ ap (gives (single row.0 end.height)) (sym place))

pub kept_refused : (keeps : Bool) (K : List Key) (angles : List Angle) (room : ℕ) (r : TypeRow) (at : ℕ)
    (old : List Entry) (new : Cursor) (e : SyntaxError) → AreRight K angles → end_in angles r at ≡ Some None
    → new.row ≡ old → IsRead keeps (kept_or K (is_kept angles) room r at) old new (Err e)
kept_refused keeps K angles room r at old new e rights found same =
    silent_refused keeps (kept_or K (is_kept angles) room r at) old new e same
    (ring_nothing K angles rights room r at found)

-- what isn't is read anew
pub kept_anew : (keeps : Bool) (K : List Key) (angles : List Angle) (room : ℕ) (r : TypeRow) (at : ℕ)
    (old : List Entry) (new : Cursor) (answer : Result ℕ SyntaxError) → AreRight K angles → end_in angles r at ≡ None
    → IsRead keeps (kept_at K (is_kept angles) room r at) old new answer
    → IsRead keeps (kept_or K (is_kept angles) room r at) old new answer
kept_anew keeps K angles room r at old new answer rights found read =
    subst (λ out. IsRead keeps out old new answer) (sym (ring_anew K angles rights room r at found)) read

-- a row is read by its rule, with room for one row less below it
pub kept_below : (keeps : Bool) (K : List Key) (angles : List Angle) (room : ℕ) (r : TypeRow) (at : ℕ)
    (old : List Entry) (new : Cursor) (answer : Result ℕ SyntaxError) → (room ≡ 0 → ⊥)
    → IsRead keeps (rule_at K (kept_or K (is_kept angles) (room - 1)) (named_rule r) at) old new answer
    → IsRead keeps (kept_at K (is_kept angles) room r at) old new answer
unfolding kept_at
kept_below keeps K angles zero r at old new answer ne read = absurd (ne refl)
kept_below keeps K angles (suc n) r at old new answer ne read =
    let e : suc n - 1 ≡ n = omega arith in
    subst (λ room. IsRead keeps (rule_at K (kept_or K (is_kept angles) room) (named_rule r) at) old new answer) e read

-- ---- the end of a row, read anew but for what is kept

module _ (K : List Key) (angles : List Angle) (r : TypeRow) (at : ℕ) (place : at ≤ length K) where
  anew : (room : ℕ) → room ≡ most_nodes
      → kept_at K (is_kept angles) room r at ≡ row_at named_rule K most_nodes r at
  anew room most = ap (λ n. kept_at K (is_kept angles) n r at) most ∙ kept_same K (is_kept angles) r at place

  pub end_found : (room : ℕ) (t : Cst) (h to : ℕ) → room ≡ most_nodes
      → kept_at K (is_kept angles) room r at ≡ gives (single t h) to → row_end r K at ≡ Some (end_at to h)
  end_found room t h to most e = row_ends K r at t h to (sym (anew room most) ∙ e)

  pub end_missing : (room : ℕ) → room ≡ most_nodes → kept_at K (is_kept angles) room r at ≡ nothing
      → row_end r K at ≡ None
  end_missing room most e = row_ends_nowhere K r at (sym (anew room most) ∙ e)

-- what keeps no entries, and refuses, read nothing
pub silent_nothing : (keeps : Bool) (out : Out Read) (e : SyntaxError) → keeps ≡ false
    → (IsTelling keeps e → out ≡ nothing) → out ≡ nothing
silent_nothing true out e silent refused = clash (sym silent)
silent_nothing false out e silent refused = refused tt

-- the bound of the code
pub most : 501 ≡ most_nodes
unfolding most_nodes
most = refl

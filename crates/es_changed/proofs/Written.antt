-- A node that was opened behind some entries, and closed behind its parts; and what is written, part by part.
use Rattle.std.specs.Prelude.{Some}
use Rattle.std.proofs.Common.{◌≡◌, ℕ, ◌+◌, ◌<◌, ◌-◌, List, [], ◌∷◌, ◌++◌, length, append_assoc, set, take, drop, map, refl, sym, ap, ◌∙◌, arith, length-drop}
use Rattle.std.proofs.Math.Seq.{take-append_seam, drop-append-add}
use Rattle.std.proofs.lemmas.List.{append-nil, take-append-drop, take-set, drop-set}
use Rattle.es_token.specs.declared.token.Token.{Token}
use Rattle.es_grammar.specs.declared.rows.NodeKind.{NodeKind}
use Rattle.es_lowering.specs.Value.{Value, nil, token}
use Rattle.es_lowering.specs.Lowering.{packed}
use Rattle.es_syntax.specs.declared.entry.What.TheVariants as vWhat
use Rattle.es_syntax.specs.declared.cursor.Item.{Item}
use Rattle.es_syntax.specs.Held.{Held, row_of, made, held, node_of, parts_of, valued}
use Rattle.es_changed.specs.declared.entry.Form.{Form}
use Rattle.es_changed.specs.declared.entry.Form.TheVariants as form
use Rattle.es_changed.specs.declared.entry.Word.{Word}
use Rattle.es_changed.specs.declared.entry.Change.{Change}
use Rattle.es_changed.specs.declared.entry.Change.TheVariants as change
use Rattle.es_changed.specs.declared.entry.ChangedEntry.{ChangedEntry}
use Rattle.es_changed.specs.Formed.{formed, word_type}
use Rattle.es_changed.specs.Changed.{with_part, changed, type_node}
use Rattle.es_changed.specs.Shape.{headed, closed, name_entry, named, opened, Shape, none, node, kept, old_entry, entries_of, beside, held_of, Writes}

pub closed_at : (c : Change) (f t at : ℕ) (a b : List ChangedEntry) (h : ChangedEntry) → at ≡ length a
    → closed c f t at ((a ++ h ∷ []) ++ b) ≡ a ++ headed c f t b
unfolding closed
closed_at c f t at a b h e = rw (e, append_assoc, take-append_seam a (h ∷ b), drop-append-add a (h ∷ b) 1) refl

-- to close a node is to write its head
pub closed_set : (c : Change) (f t at n : ℕ) (es : List ChangedEntry) → at < length es → n ≡ length es - at - 1
    → set es at (record { change = c; from = f; to = t; size = n }) ≡ closed c f t at es
unfolding closed
closed_set c f t at n es h e =
    let y : ChangedEntry = record { change = c; from = f; to = t; size = n } in
    let k : n ≡ length (drop (at + 1) es) = omega (arith, length-drop (at + 1) es) in
    rw (← take-append-drop at (set es at y), take-set es at y, drop-set es at y h, k) refl

-- to make it a name is to write that in its place
pub named_set : (n at : ℕ) (es : List ChangedEntry) → at < length es → set es at (name_entry n) ≡ named n at es
unfolding named
named_set n at es h =
    let y : ChangedEntry = name_entry n in
    rw (← take-append-drop at (set es at y), take-set es at y, drop-set es at y h) refl

named_at : (n at : ℕ) (a b : List ChangedEntry) (h : ChangedEntry) → at ≡ length a
    → named n at ((a ++ h ∷ []) ++ b) ≡ a ++ name_entry n ∷ b
unfolding named
named_at n at a b h e = rw (e, append_assoc, take-append_seam a (h ∷ b), drop-append-add a (h ∷ b) 1) refl

entries_beside : (a b : Shape) → entries_of (beside a b) ≡ entries_of a ++ entries_of b
unfolding entries_of beside
entries_beside none b = refl
entries_beside (kept what f t parts rest) b = rw (entries_beside rest b) (simp append_assoc)
entries_beside (node c f t parts rest) b = rw (entries_beside rest b) (simp append_assoc)

with_append : (c : Change) (p : Held) (ps qs : List Held) → with_part c p (ps ++ qs) ≡ with_part c p ps ++ qs
with_append (change.Old what) p ps qs = refl
with_append (change.Form f) p ps qs = refl
with_append (change.Word w) p ps qs = refl
with_append change.Gone p ps qs = refl

module _ (x : List ℕ) (ts : List Token) where
  abbrev seconds : List Held → List Value
  seconds ps = map (λ (p : Held). p.1) ps

  both : (ps qs : List Held) → seconds (ps ++ qs) ≡ seconds ps ++ seconds qs
  both [] qs = refl
  both (p ∷ ps) qs = ap (λ (vs : List Value). p.1 ∷ vs) (both ps qs)

  held_beside : (a b : Shape) → held_of x ts (beside a b) ≡ held_of x ts a ++ held_of x ts b
  unfolding held_of beside
  held_beside none b = refl
  held_beside (kept what f t parts rest) b =
      ap (λ (ps : List Held). (t, made x ts what f t (held x ts parts) (parts_of x ts parts)) ∷ ps) (held_beside rest b)
  held_beside (node c f t parts rest) b =
      ap (λ (ps : List Held). with_part c
      (t, changed x ts c f t (row_of x ts (held_of x ts parts)) (held_of x ts parts)) ps) (held_beside rest b)
      ∙ with_append c (t, changed x ts c f t (row_of x ts (held_of x ts parts)) (held_of x ts parts))
      (held_of x ts rest)
      (held_of x ts b)

  -- ---- nothing, and what has no parts
  pub nothing_written : (old : List ChangedEntry) → Writes x ts old old []
  unfolding entries_of held_of
  nothing_written old = record { shape = none; row = sym (append-nil old); are = refl }

  pub gone_written : (f t : ℕ) (old new : List ChangedEntry) → new ≡ old ++ headed change.Gone f t []
      → Writes x ts old new []
  unfolding entries_of held_of
  gone_written f t old new e = record { shape = node change.Gone f t none none; row = e; are = refl }

  pub word_written : (w : Word) (f t : ℕ) (old new : List ChangedEntry) → new ≡ old ++ headed (change.Word w) f t []
      → Writes x ts old new (type_node f t (Some (word_type w)) ∷ [])
  unfolding entries_of held_of
  word_written w f t old new e = record { shape = node (change.Word w) f t none none; row = e; are = refl }

  pub token_written : (at : ℕ) (old new : List ChangedEntry) → new ≡ old ++ headed (change.Old vWhat.Leaf) at at []
      → Writes x ts old new (token at ∷ [])
  unfolding entries_of held_of
  token_written at old new e = record { shape = node (change.Old vWhat.Leaf) at at none none; row = e; are = refl }

  pub empty_written : (f t : ℕ) (old new : List ChangedEntry) → new ≡ old ++ headed (change.Old vWhat.Parts) f t []
      → Writes x ts old new (nil ∷ [])
  unfolding entries_of held_of
  empty_written f t old new e = record { shape = node (change.Old vWhat.Parts) f t none none; row = e; are = refl }

  pub bare_written : (g : Form) (f t : ℕ) (old new : List ChangedEntry) → new ≡ old ++ headed (change.Form g) f t []
      → Writes x ts old new (formed x ts g f t nil ∷ [])
  unfolding entries_of held_of
  bare_written g f t old new e = record { shape = node (change.Form g) f t none none; row = e; are = refl }

  -- ---- one behind the other
  pub both_written : (a b c : List ChangedEntry) (vs ws : List Value) → Writes x ts a b vs → Writes x ts b c ws
      → Writes x ts a c (vs ++ ws)
  both_written a b c vs ws p q = record {
    shape = beside p.shape q.shape;
    row =
        q.row ∙ (ap (λ (es : List ChangedEntry). es ++ entries_of q.shape) p.row
        ∙ (append_assoc a (entries_of p.shape) (entries_of q.shape)
        ∙ ap (λ (es : List ChangedEntry). a ++ es) (sym (entries_beside p.shape q.shape))));
    are =
        ap seconds (held_beside p.shape q.shape) ∙ (both (held_of x ts p.shape) (held_of x ts q.shape)
        ∙ (ap (λ (us : List Value). us ++ seconds (held_of x ts q.shape)) p.are
        ∙ ap (λ (us : List Value). vs ++ us) q.are));
  }

  -- what is kept is what it was
  pub kept_written : (it : Item) (old new : List ChangedEntry)
      → new ≡ old ++ headed (change.Old it.what) it.from it.to (map old_entry it.parts.entries.now)
      → Writes x ts old new (valued x ts it ∷ [])
  unfolding entries_of held_of
  kept_written it old new e = record {
    shape = kept it.what it.from it.to it.parts.entries.now none;
    row =
        e ∙ ap (λ (es : List ChangedEntry). old ++ es)
        (sym (append-nil (headed (change.Old it.what) it.from it.to (map old_entry it.parts.entries.now))));
    are = refl;
  }

  -- ---- what was opened and closed, from its parts, which were written while it was open
  closed_written : (c : Change) (v : List Value → Value) (from to at : ℕ) (old begun mid new : List ChangedEntry)
      (vs : List Value)
      → ((s : Shape) → seconds (held_of x ts (node c from to s none)) ≡ v (seconds (held_of x ts s)) ∷ [])
      → begun ≡ old ++ opened → at ≡ length old → Writes x ts begun mid vs → new ≡ closed c from to at mid
      → Writes x ts old new (v vs ∷ [])
  unfolding entries_of
  closed_written c v from to at old begun mid new vs is eo ea w e = record {
    shape = node c from to w.shape none;
    row = wrote;
    are = is w.shape ∙ ap (λ (us : List Value). v us ∷ []) w.are;
  }
    where
      stood : mid ≡ (old ++ opened) ++ entries_of w.shape
      stood = w.row ∙ ap (λ (es : List ChangedEntry). es ++ entries_of w.shape) eo

      wrote : new ≡ old ++ (headed c from to (entries_of w.shape) ++ [])
      wrote =
          e ∙ (ap (closed c from to at) stood
          ∙ (closed_at c from to at old (entries_of w.shape)
          (record { change = change.Gone; from = 0; to = 0; size = 0 }) ea
          ∙ ap (λ (es : List ChangedEntry). old ++ es) (sym (append-nil (headed c from to (entries_of w.shape))))))

  -- a form
  pub form_written : (f : Form) (from to at : ℕ) (old begun mid new : List ChangedEntry) (vs : List Value)
      → begun ≡ old ++ opened → at ≡ length old → Writes x ts begun mid vs → new ≡ closed (change.Form f) from to at mid
      → Writes x ts old new (formed x ts f from to (packed vs) ∷ [])
  unfolding held_of
  form_written f from to at old begun mid new vs eo ea w e =
      closed_written (change.Form f) (λ us. formed x ts f from to (packed us)) from to at old begun mid new vs
      (λ s. refl) eo ea w e

  -- a node of an alternative
  pub node_written : (label : NodeKind) (from to at : ℕ) (old begun mid new : List ChangedEntry) (vs : List Value)
      → begun ≡ old ++ opened → at ≡ length old → Writes x ts begun mid vs
      → new ≡ closed (change.Old (vWhat.Node label)) from to at mid
      → Writes x ts old new (node_of x ts label from to (packed vs) ∷ [])
  unfolding held_of
  node_written label from to at old begun mid new vs eo ea w e =
      closed_written (change.Old (vWhat.Node label)) (λ us. node_of x ts label from to (packed us)) from to at old
      begun mid
      new vs (λ s. refl) eo ea w e

  -- a group
  pub group_written : (from to at : ℕ) (old begun mid new : List ChangedEntry) (vs : List Value)
      → begun ≡ old ++ opened → at ≡ length old → Writes x ts begun mid vs
      → new ≡ closed (change.Old vWhat.Parts) from to at mid → Writes x ts old new (packed vs ∷ [])
  unfolding held_of
  group_written from to at old begun mid new vs eo ea w e =
      closed_written (change.Old vWhat.Parts) (λ us. packed us) from to at old begun mid new vs (λ s. refl) eo ea w e

  -- a made name before what was written since it was opened
  pub name_written : (n at : ℕ) (old begun mid new : List ChangedEntry) (vs : List Value) → begun ≡ old ++ opened
      → at ≡ length old → Writes x ts begun mid vs → new ≡ named n at mid
      → Writes x ts old new (formed x ts form.MadeName n 0 nil ∷ vs)
  unfolding entries_of held_of
  name_written n at old begun mid new vs eo ea w e = record {
    shape = node (change.Form form.MadeName) n 0 none w.shape;
    row =
        e ∙ (ap (named n at) (w.row ∙ ap (λ (es : List ChangedEntry). es ++ entries_of w.shape) eo)
        ∙ named_at n at old (entries_of w.shape) (record { change = change.Gone; from = 0; to = 0; size = 0 }) ea);
    are = ap (λ (us : List Value). formed x ts form.MadeName n 0 nil ∷ us) w.are;
  }

  -- ---- what is taken back
  pub taken_back : (old new : List ChangedEntry) (vs : List Value) → Writes x ts old new vs
      → take (length old) new ≡ old
  taken_back old new vs w = ap (take (length old)) w.row ∙ take-append_seam old (entries_of w.shape)

  -- what was written while a node was open is taken back with it
  pub taken_open : (at : ℕ) (old begun mid : List ChangedEntry) (vs : List Value) → begun ≡ old ++ opened
      → at ≡ length old → Writes x ts begun mid vs → take at mid ≡ old
  taken_open at old begun mid vs eo ea w =
      rw ea (ap (take (length old)) (w.row ∙ (ap (λ (es : List ChangedEntry). es ++ entries_of w.shape) eo
      ∙ append_assoc old opened (entries_of w.shape))) ∙ take-append_seam old (opened ++ entries_of w.shape))

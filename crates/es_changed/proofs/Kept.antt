-- Entries of the program's row, one by one.
use Rattle.std.specs.Prelude.{ℕ, suc, List, [], ◌∷◌, ◌++◌, length, map}
use Rattle.std.proofs.Common.{◌≡◌, refl, sym, ap, ◌∙◌, append_assoc}
use Rattle.std.proofs.lemmas.List.{append-nil}
use Rattle.es_token.specs.declared.token.Token.{Token}
use Rattle.es_syntax.specs.declared.entry.Entry.{Entry}
use Rattle.es_syntax.specs.declared.cursor.Item.{Item}
use Rattle.es_syntax.specs.Held.{valued}
use Rattle.es_changed.specs.declared.entry.Change.TheVariants as change
use Rattle.es_changed.specs.declared.entry.ChangedEntry.{ChangedEntry}
use Rattle.es_changed.specs.Shape.{old_entry, Writes}
use Rattle.es_changed.proofs.Written.{kept_written}

-- what was written by now, and what is left, are all of them
pub record Left (start now : List ChangedEntry) (all left : List Entry) : Type 0 where
  pub goes : now ++ map old_entry left ≡ start ++ map old_entry all

pub kept_none : (start : List ChangedEntry) (all : List Entry) → Left start start all all
kept_none start all = record { goes = refl }

pub kept_next : (start now next : List ChangedEntry) (all left rest : List Entry) (e : Entry) → left ≡ e ∷ rest
    → next ≡ now ++ old_entry e ∷ [] → Left start now all left → Left start next all rest
kept_next start now next all left rest e is w before = record {
  goes =
      ap (λ (es : List ChangedEntry). es ++ map old_entry rest) w
      ∙ (append_assoc now (old_entry e ∷ []) (map old_entry rest)
      ∙ (ap (λ (es : List Entry). now ++ map old_entry es) (sym is) ∙ before.goes));
}

pub kept_done : (start now : List ChangedEntry) (all left : List Entry) → left ≡ [] → Left start now all left
    → now ≡ start ++ map old_entry all
kept_done start now all left is before =
    sym (append-nil now) ∙ (ap (λ (es : List Entry). now ++ map old_entry es) (sym is) ∙ before.goes)

pub kept_headed : (it : Item) (old mid new : List ChangedEntry) (n : ℕ) → n ≡ length it.parts.entries.now
    → mid ≡ old ++ (record { change = change.Old it.what; from = it.from; to = it.to; size = n }) ∷ []
    → new ≡ mid ++ map old_entry it.parts.entries.now → (x : List ℕ) (ts : List Token)
    → Writes x ts old new (valued x ts it ∷ [])
kept_headed it old mid new n e m w x ts = kept_written x ts it old new
    (w ∙ (ap (λ (es : List ChangedEntry). es ++ map old_entry it.parts.entries.now) m
    ∙ (append_assoc old _ (map old_entry it.parts.entries.now)
    ∙ ap (λ (k : ℕ). old ++ (record { change = change.Old it.what; from = it.from; to = it.to; size = k })
    ∷ map old_entry it.parts.entries.now) (e ∙ sym (length_old it.parts.entries.now)))))
  where
    length_old : (es : List Entry) → length (map old_entry es) ≡ length es
    length_old [] = refl
    length_old (e ∷ es) = ap suc (length_old es)

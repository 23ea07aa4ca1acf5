-- What is put behind a string, entry after entry.
use Rattle.std.specs.Prelude.{ℕ, List, [], ◌∷◌, ◌++◌, map, Option, Some, None}
use Rattle.std.specs.Borrow.{Bor}
use Rattle.std.proofs.Common.{◌≡◌, refl, sym, subst, ap, ◌∙◌, append-nil, append_assoc}
use Rattle.base.specs.declared.range.Range.{Range}
use Rattle.url.specs.Parts.{Parts}
use Rattle.graph_entry.specs.declared.entry.Entry.{Entry}
use Rattle.graph_builder.specs.Entries.{entry_pair}
use Rattle.parse_diagnostic.specs.declared.kind.SyntaxErrorKind.{SyntaxErrorKind}
use Rattle.parse_diagnostic.specs.declared.kind.SyntaxErrorKind.TheVariants.{Lexical, Syntax}
use Rattle.parse_diagnostic.specs.Diagnosis.{Diagnosis, Told, told, told_range}
use Rattle.joravelsu_run.specs.Faults.{IsPlaceOf, fault_of, fault_line, IsFaultText, IsFaultsText, none, more}
use Rattle.joravelsu_run.specs.Steps.{AddsTo}

-- the front of what a diagnosis tells is the place
place_told : (kind : SyntaxErrorKind) (range : Range) → IsPlaceOf (told_range kind range) range.start
place_told (Lexical kind) range = refl
place_told Syntax range = tt

pub pairs_more : {A B : Type 0} (f : A → B) (xs : List A) (x : A) → map f (xs ++ x ∷ []) ≡ map f xs ++ f x ∷ []
pairs_more f [] x = refl
pairs_more f (y ∷ xs) x = ap (λ l. f y ∷ l) (pairs_more f xs x)

-- the line of a fault, or nothing
pub fault_added : (old new : List ℕ) (url : Parts) (fault : Option Told) (kept : Told) (d : Diagnosis)
    → fault ≡ Some kept → told d ≡ kept → new ≡ old ++ fault_line url d.kind d.range.start
    → AddsTo (IsFaultText url fault) old new
fault_added old new url fault kept d is same adds =
    let there : fault ≡ Some (told d) = is ∙ ap (λ (t : Told). Some t) (sym same) in
    subst (λ (f : Option Told). AddsTo (IsFaultText url f) old new) (sym there)
    (fault_line url d.kind d.range.start, (d.range.start, place_told d.kind d.range, refl), adds)

pub none_added : (old : List ℕ) (url : Parts) (fault : Option Told) → fault ≡ None
    → AddsTo (IsFaultText url fault) old old
none_added old url fault is =
    subst (λ (f : Option Told). AddsTo (IsFaultText url f) old old) (sym is) ([], refl, sym (append-nil old))

pub nothing_added : (old : List ℕ) → AddsTo (IsFaultsText []) old old
nothing_added old = ([], none, sym (append-nil old))

-- one more
one_added : (old now new : List ℕ) (entries : List (Parts × Entry)) (e : Parts × Entry)
    → AddsTo (IsFaultsText entries) old now → AddsTo (IsFaultText e.0 (fault_of e.1)) now new
    → AddsTo (IsFaultsText (entries ++ e ∷ [])) old new
one_added old now new entries e (text, are, first) (line, is, then) = (
  text ++ line,
  more entries text e line are is,
  then ∙ (ap (λ bytes. bytes ++ line) first ∙ append_assoc old text line),
)

pub pair_added : (old now new : List ℕ) (pairs : List (Bor Parts × Bor Entry)) (p : Bor Parts × Bor Entry)
    (fault : Option Told) → fault ≡ fault_of p.1.now → AddsTo (IsFaultsText (map entry_pair pairs)) old now
    → AddsTo (IsFaultText p.0.now fault) now new → AddsTo (IsFaultsText (map entry_pair (pairs ++ p ∷ []))) old new
pair_added old now new pairs p fault same before line =
    subst (λ (es : List (Parts × Entry)). AddsTo (IsFaultsText es) old new) (sym (pairs_more entry_pair pairs p))
    (one_added old now new (map entry_pair pairs) (entry_pair p) before
    (subst (λ (f : Option Told). AddsTo (IsFaultText p.0.now f) now new) same line))

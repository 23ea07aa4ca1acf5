-- What records tell, one more at a time.
use Rattle.std.proofs.Common.{◌≡◌, ◌∙◌, sym, ap, subst, ℕ, zero, suc, ◌+◌, ◌<◌, List, [], ◌∷◌, ◌++◌, length, take, get_or, arith, String, string_bytes}
use Rattle.std.specs.Global.{Global}
use Rattle.std.proofs.lemmas.List.{take_more}
use Rattle.specifier_edits.specs.records.Records.{value_of, HasValue, AreTold, IsFirstLost}
use Rattle.specifier_edits.specs.declared.records.records.SourceChange.{SourceChange}

abbrev IsOne : List ℕ → SourceChange → ℕ × String Global → Type 0
IsOne values it change =
    HasValue values it × (change.0 ≡ it.site) × (string_bytes change.1 ≡ value_of values it)

told_push : (values : List ℕ) (records : List SourceChange) (changes : List (ℕ × String Global))
    (it : SourceChange) (change : ℕ × String Global) → AreTold values records changes → IsOne values it change
    → AreTold values (records ++ it ∷ []) (changes ++ change ∷ [])
told_push values [] [] it change told is = (is.0, is.1, is.2, tt)
told_push values [] (c ∷ changes) it change told is = absurd told
told_push values (r ∷ records) [] it change told is = absurd told
told_push values (r ∷ records) (c ∷ changes) it change told is =
    (told.0, told.1, told.2, told_push values records changes it change told.3 is)

-- one more record has its change
pub told_more : (values : List ℕ) (records : List SourceChange) (at : ℕ) (it other : SourceChange)
    (changes new : List (ℕ × String Global)) (change : ℕ × String Global) → at < length records
    → it ≡ get_or records at other → AreTold values (take at records) changes → IsOne values it change
    → new ≡ changes ++ change ∷ [] → AreTold values (take (at + 1) records) new
told_more values records at it other changes new change inside here told is grown =
    let front : take (at + 1) records ≡ take at records ++ it ∷ [] =
    take_more records at other inside ∙ ap (λ (r : SourceChange). take at records ++ r ∷ []) (sym here) in
    let P : List SourceChange → Type 0 = λ rs. AreTold values rs new in
    let Q : List (ℕ × String Global) → Type 0 = λ cs. AreTold values (take at records ++ it ∷ []) cs in
    subst P (sym front) (subst Q (sym grown) (told_push values (take at records) changes it change told is))

-- all before it have theirs, and this one has none
pub lost_here : (values : List ℕ) (records : List SourceChange) (at : ℕ) (it other : SourceChange)
    (changes : List (ℕ × String Global)) → at < length records → it ≡ get_or records at other
    → AreTold values (take at records) changes → ¬ HasValue values it → IsFirstLost values records at
lost_here values [] at it other changes inside here told lost = absurd (let bad : ⊥ = omega (arith, inside) in bad)
lost_here values (r ∷ records) zero it other changes inside here told lost =
    subst (λ (k : SourceChange). ¬ HasValue values k) here lost
lost_here values (r ∷ records) (suc at) it other [] inside here told lost = absurd told
lost_here values (r ∷ records) (suc at) it other (c ∷ changes) inside here told lost =
    (told.0, lost_here values records at it other changes (omega (arith, inside)) here told.3 lost)

-- The first module that has no name by which it is found as before; what a name tells.
use Rattle.std.proofs.Common.{◌≡◌, refl, sym, ap, subst, [], ◌∷◌, Option, Some, None, Ok, Err, inl, inr}
use Rattle.std.specs.Result.{result_ok}
use Rattle.std.proofs.lemmas.Option.{none-some, same_Some}
use Rattle.url.specs.Parts.{Parts}
use Rattle.url.specs.Parser.{Parsed}
use Rattle.media_type.specs.declared.media_type.MediaType.TheVariants.{Unknown}
use Rattle.media_type.specs.Specifiers.{of_specifier}
use Rattle.graph_entry.specs.declared.entry.Entry.{Entry}
use Rattle.graph_entry.specs.Specifier.{text_of}
use Rattle.graph_entry.specs.Analysed.{media_type_read}
use Rattle.graph_vendor.specs.Names.{Entries, Names}
use Rattle.graph_vendor.specs.Kept.{IsKept, IsFirstLost}

pub lost_here : (entries : Entries) (names : Names) (left rest : Entries) (url : Parts) (e : Entry)
    → left ≡ (url, e) ∷ rest → (IsKept entries names (text_of url) e → ⊥)
    → IsFirstLost entries names left (Some url)
lost_here entries names left rest url e steps isnt =
    subst (λ (es : Entries). IsFirstLost entries names es (Some url)) (sym steps) (inl (isnt, refl))

pub lost_later : (entries : Entries) (names : Names) (left rest : Entries) (url : Parts) (e : Entry)
    (found : Option Parts) → left ≡ (url, e) ∷ rest → IsKept entries names (text_of url) e
    → IsFirstLost entries names rest found → IsFirstLost entries names left found
lost_later entries names left rest url e found steps is later =
    subst (λ (es : Entries). IsFirstLost entries names es found) (sym steps) (inr (is, later))

pub lost_none : (entries : Entries) (names : Names) (left : Entries) → left ≡ [] → IsFirstLost entries names left None
lost_none entries names left e = subst (λ (es : Entries). IsFirstLost entries names es None) (sym e) refl

-- ---- what a specifier that is read again tells

pub told_some : (read : Parsed Parts) (url : Parts) → result_ok read ≡ Some url → media_type_read read ≡ of_specifier url
told_some (Ok again) url e = ap of_specifier (same_Some again url e)
told_some (Err fault) url e = absurd (none-some url e)

pub told_none : (read : Parsed Parts) → result_ok read ≡ None → media_type_read read ≡ Unknown
told_none (Ok again) e = absurd (let bad : ⊥ = cc in bad)
told_none (Err fault) e = refl

-- Headers by their names' texts.
use Rattle.std.proofs.Common.{◌≡◌, Bool, true, false, cond, List, [], ◌∷◌, refl, Some, String, string_bytes}
use Rattle.std.specs.Prelude.{ℕ, option_map, bytes_eq}
use Rattle.std.specs.Map.{lookup}
use Rattle.std.specs.BTreeMap.{is_at}
use Rattle.std.specs.Ordering.{nat_cmp}
use Rattle.std.specs.Cmp.Lexicographic.{slice_cmp}
use Rattle.std.proofs.lemmas.Map.Text.{is_eq-slice_cmp}
use Rattle.media_type.specs.Specifiers.{texts_of}

-- a value by its name, and by the name's text
pub lookup-get : {A : Type 0} (name : List ℕ) (es : List (String A × String A))
    → option_map string_bytes (lookup (is_at (λ k. slice_cmp nat_cmp name (string_bytes k))) es)
    ≡ lookup (bytes_eq name) (texts_of es)
lookup-get name [] = refl
lookup-get name (e ∷ es) =
    rw (is_eq-slice_cmp name (string_bytes e.0)) (by (bytes_eq name (string_bytes e.0)) (lookup-get name es))
  where
    by : (b : Bool) → option_map string_bytes (lookup (is_at (λ k. slice_cmp nat_cmp name (string_bytes k))) es)
        ≡ lookup (bytes_eq name) (texts_of es)
        → option_map string_bytes (cond b (Some e.1) (lookup (is_at (λ k. slice_cmp nat_cmp name (string_bytes k))) es))
        ≡ cond b (Some (string_bytes e.1)) (lookup (bytes_eq name) (texts_of es))
    by true rest = refl
    by false rest = rest

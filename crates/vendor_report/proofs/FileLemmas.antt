-- Which files are written as texts.
use Rattle.std.proofs.Common.{◌≡◌, ◌∙◌, refl, ap, Bool, true, false, List, ℕ, Option, Some, None, IsUtf8}
use Rattle.std.specs.Prelude.{nat_eq, not, ◌||◌, codes, if◌then◌else◌}
use Rattle.std.specs.List.{ends_with}
use Rattle.std.specs.Str.{is_utf8}
use Rattle.std.proofs.lemmas.Str.{is_utf8-from_IsUtf8, IsUtf8-from_is_utf8}
use Rattle.graph_entry.specs.Specifier.{text_of}
use Rattle.vendor_files.specs.declared.file.VendorFile.{VendorFile}
use Rattle.vendor_report.specs.Plans.{plain_text}

not_yes : (b : Bool) → (b ≡ true → ⊥) → b ≡ false
not_yes true h = absurd (h refl)
not_yes false h = refl

either : (a : Bool) (text : List ℕ) → (if a || true then None else Some text) ≡ None
either true text = refl
either false text = refl

-- the name tells WebAssembly
pub coded_name : (file : VendorFile) → ends_with nat_eq (text_of file.target) (codes ".wasm") ≡ true
    → plain_text file ≡ None
unfolding plain_text
coded_name file e = ap (λ (b : Bool). if b || not (is_utf8 file.bytes) then None else Some file.bytes) e

-- the bytes are no text
pub coded_bytes : (file : VendorFile) → (IsUtf8 file.bytes → ⊥) → plain_text file ≡ None
unfolding plain_text
coded_bytes file broken =
    ap (λ (b : Bool). if ends_with nat_eq (text_of file.target) (codes ".wasm") || not b then None else Some file.bytes)
    (not_yes (is_utf8 file.bytes) (λ good. broken (IsUtf8-from_is_utf8 file.bytes good)))
    ∙ either (ends_with nat_eq (text_of file.target) (codes ".wasm")) file.bytes

-- the bytes are one, and the name tells another kind
pub plain : (file : VendorFile) → ends_with nat_eq (text_of file.target) (codes ".wasm") ≡ false → IsUtf8 file.bytes
    → plain_text file ≡ Some file.bytes
unfolding plain_text
plain file e utf8 =
    ap (λ (b : Bool). if b || not (is_utf8 file.bytes) then None else Some file.bytes) e
    ∙ ap (λ (b : Bool). if false || not b then None else Some file.bytes) (is_utf8-from_IsUtf8 file.bytes utf8)

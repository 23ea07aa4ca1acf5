-- A text as the bytes of a file.
use Rattle.std.proofs.Common.{◌≡◌, ◌∙◌, refl, sym, ap, subst, ℕ, Bool, true, false, List, [], ◌∷◌, ◌++◌, take, drop}
use Rattle.std.specs.Prelude.{IsUtf8, encode_utf8_all, if◌then◌else◌}
use Rattle.std.specs.Char.{encode_utf8}
use Rattle.std.specs.Cmp.Lexicographic.{same_text}
use Rattle.std.proofs.lemmas.List.{take-append-drop}
use Rattle.std.proofs.lemmas.Str.{IsUtf8-append}
use lib.Utf8.{scalar, scalars}
use Rattle.lexical_path.specs.Specifiers.{begins}
use Rattle.source_text.specs.module_text.ModuleText.{mark, without_mark}
use Rattle.source_text.proofs.module_text_lemmas.ModuleTextLemmas.{without_mark-cut}
use Rattle.graph_vendor.specs.Plan.{in_file}
use Rattle.graph_vendor.proofs.vendored.Lists.{both}

mark_utf8 : IsUtf8 mark
unfolding encode_utf8
mark_utf8 = (0xFEFF ∷ [], (refl, refl))

without_by : (b : Bool) (text : List ℕ) → begins text mark ≡ b
    → without_mark text ≡ (if b then drop 3 text else text)
unfolding without_mark
without_by b text e = ap (λ (c : Bool). if c then drop 3 text else text) e

-- a file is read as the text
pub file_read : (text : List ℕ) → without_mark (in_file text) ≡ text
file_read text = by (begins text mark) refl
  where
    by : (b : Bool) → begins text mark ≡ b → without_mark (in_file text) ≡ text
    by true e =
        let file : in_file text ≡ mark ++ text = ap (λ (c : Bool). if c then mark ++ text else text) e in
        ap without_mark file ∙ without_by true (mark ++ text) refl
    by false e =
        let file : in_file text ≡ text = ap (λ (c : Bool). if c then mark ++ text else text) e in
        ap without_mark file ∙ without_by false text e

pub file_utf8 : (text : List ℕ) → IsUtf8 text → IsUtf8 (in_file text)
file_utf8 text u = by (begins text mark)
  where
    by : (b : Bool) → IsUtf8 (if b then mark ++ text else text)
    by true = IsUtf8-append mark text mark_utf8 u
    by false = u

-- what is read of a text is one
behind_mark : (cs bytes after : List ℕ) → scalars cs ≡ true → encode_utf8_all cs ≡ bytes → bytes ≡ mark ++ after
    → IsUtf8 (without_mark bytes)
behind_mark [] bytes after s e marked = absurd (let bad : ⊥ = cc in bad)
behind_mark (c ∷ cs) bytes after s e marked =
    (cs, ((both (scalar c) (scalars cs) s).1, without_mark-cut bytes after (encode_utf8_all cs) c marked (sym e)))

pub read_utf8 : (bytes : List ℕ) → IsUtf8 bytes → IsUtf8 (without_mark bytes)
read_utf8 bytes u = by (begins bytes mark) refl
  where
    by : (b : Bool) → begins bytes mark ≡ b → IsUtf8 (without_mark bytes)
    by true e =
        let front : mark ≡ take 3 bytes = same_text mark (take 3 bytes) (sym e) in
        let whole : bytes ≡ mark ++ drop 3 bytes =
        sym (take-append-drop 3 bytes) ∙ ap (λ (xs : List ℕ). xs ++ drop 3 bytes) (sym front) in
        behind_mark u.0 bytes (drop 3 bytes) u.1.0 u.1.1 whole
    by false e = subst IsUtf8 (sym (without_by false bytes e)) u

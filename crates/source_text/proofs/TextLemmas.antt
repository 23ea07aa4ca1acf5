-- A text may be cut behind a byte order mark at its front.
use Rattle.std.specs.Prelude.{IsUtf8, nat_eq}
use Rattle.std.specs.List.{starts_with}
use Rattle.std.specs.Char.{encode_utf8}
use Rattle.std.specs.Str.{IsCharBoundary}
use Rattle.std.proofs.Common.{◌≡◌, refl, true, List, ℕ, ◌++◌, drop, arith}
use Rattle.std.proofs.lemmas.Str.{IsCharBoundary-past_char}
use Rattle.std.proofs.lemmas.Slice.Eq.{starts_is}
use Rattle.std.proofs.lemmas.Bool.Decides.{Decides-eqb}
use Rattle.source_text.specs.module_text.ModuleText.{mark}

-- the mark is one character
one_character : (text : List ℕ) → text ≡ mark ++ drop 3 text → text ≡ encode_utf8 0xFEFF ++ drop 3 text
unfolding encode_utf8
one_character text is = is

pub mark-boundary : (text : List ℕ) → IsUtf8 text → starts_with nat_eq text mark ≡ true → IsCharBoundary text 3
mark-boundary text utf8 has =
    IsCharBoundary-past_char text (drop 3 text) 0 0xFEFF (omega arith) utf8
    (one_character text ((starts_is Decides-eqb text mark (starts_with nat_eq text mark) refl).0 has))

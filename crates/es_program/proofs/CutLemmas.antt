-- The line behind `#!` is cut between characters.
use Rattle.std.specs.Prelude.{List, Some}
use Rattle.std.proofs.Common.{◌≡◌, ℕ, ◌+◌, slice_get, IsUtf8}
use Rattle.es_token.specs.declared.token.Token.{Token}
use Rattle.es_token.specs.declared.token.TokenKind.TheVariants as k
use Rattle.es_lexer.specs.Reads.{ReadsTokens}
use Rattle.es_lexer.proofs.Theorems.{reads_boundary}
use Rattle.es_law_tokens.proofs.ranges.Theorems.{reads_shebang}
use Rattle.es_program.specs.Cuts.{Cuts}

pub line_cut : (x : List ℕ) (ts : List Token) (n : ℕ) (t : Token) → IsUtf8 x → ReadsTokens x ts
    → slice_get ts n ≡ Some t
    → t.kind ≡ k.Shebang → Cuts x (t.range.start + 2) t.range.end
line_cut x ts n t utf reads there is =
    let cut = reads_shebang x ts reads.0 n t utf reads.1 there is in
    let ends = reads_boundary x ts reads.0 n t utf reads.1 there in
    record { ordered = cut.0; starts = cut.1; ends = ends.1 }

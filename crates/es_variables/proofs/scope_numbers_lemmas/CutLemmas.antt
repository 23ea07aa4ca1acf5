-- The tokens of a text cut it between characters.
use Rattle.std.specs.Prelude.{List}
use Rattle.std.proofs.Common.{ℕ, ◌<◌, IsUtf8, arith}
use Rattle.es_token.specs.declared.token.Token.{Token}
use Rattle.es_lexer.specs.Reads.{ReadsTokens}
use Rattle.es_lexer.proofs.Theorems.{reads_within, reads_boundary}
use Rattle.es_variables.specs.scope_numbers.Cuts.{IsCut}

pub reads_cut : (x : List ℕ) (ts : List Token) → IsUtf8 x → ReadsTokens x ts → IsCut x ts
reads_cut x ts utf reads = λ n t there.
    let size : t.range.start < t.range.end = (reads_within x ts reads.0 n t reads.1 there).0 in
    let ends = reads_boundary x ts reads.0 n t utf reads.1 there in
    record { ordered = omega (arith, size); starts = ends.0; ends = ends.1 }

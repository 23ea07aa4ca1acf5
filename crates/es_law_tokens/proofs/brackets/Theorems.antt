-- The laws of brackets among the tokens of a reading.
use Rattle.std.proofs.Common.{◌≡◌, ℕ, ◌+◌, ◌<◌, List, [], Some, slice_get, sym, ◌∙◌, ap, subst, arith, ◌⊎◌, inl, inr}
use Rattle.es_lexer.specs.declared.bracket.BracketKind.{BracketKind}
use Rattle.es_lexer.specs.declared.bracket.Role.TheVariants.{Closes}
use Rattle.es_token.specs.declared.token.Token.{Token}
use Rattle.es_token.specs.declared.token.Comment.{Comment}
use Rattle.es_lexer.specs.Brackets.{role_of}
use Rattle.es_lexer.specs.Pieces.{Piece, count_of, open_at}
use Rattle.es_lexer.specs.Reads.{Reads, tokens_of}
use Rattle.es_law_tokens.specs.brackets.Partners.{Begins, IsBegun}
use Rattle.es_law_tokens.proofs.brackets.NestLemmas.{nested, closer_back, Origin, OpenStill, BegunHere}

-- a token between two partners that has a partner has it between them too
pub reads_nested : (x : List ℕ) (ts : List Token) (cs : List Comment) (n m i j : ℕ) (t u : Token) → Reads x ts cs
    → slice_get ts n ≡ Some t → Begins (role_of t.kind) → t.partner ≡ Some m
    → slice_get ts i ≡ Some u → u.partner ≡ Some j → n < i → i < m → (n < j) × (j < m)
unfolding count_of
reads_nested x ts cs n m i j t u r f b p g q l h =
    let d : (0 + n < j) × (j < m) =
    nested r.pieces [] n m i j t u (ap (λ us. slice_get us n) (sym r.tokens_are) ∙ f) b p
    (ap (λ us. slice_get us i) (sym r.tokens_are) ∙ g) q l (omega arith) in
    let low : 0 + n < j = d.0 in (omega arith, d.1)

begun : (ps : List Piece) (j n : ℕ) → Origin [] ps j (0 + n) → IsBegun (tokens_of [] ps) j n
unfolding open_at count_of
begun ps j n (inl o) = let none : open_at o.depth [] ≡ Some o.bracket = o.there in cc
begun ps j n (inr b) =
    let is : j ≡ 0 + b.place = b.is in
    let low : j < 0 + n = b.low in
    record {
      found = b.found;
      here = ap (slice_get (tokens_of [] ps)) (let q : j ≡ b.place = omega arith in q) ∙ b.here;
      before = omega arith;
      begins = b.begins;
      partner = b.partner ∙ ap Some (let q : 0 + n ≡ n = omega arith in q);
    }

-- the partner of a closing token stands before it, begins what it closes, and has it for its own partner
pub reads_closer : (x : List ℕ) (ts : List Token) (cs : List Comment) (n m : ℕ) (t : Token) (k : BracketKind)
    → Reads x ts cs → slice_get ts n ≡ Some t → role_of t.kind ≡ Closes k → t.partner ≡ Some m → IsBegun ts m n
unfolding count_of
reads_closer x ts cs n m t k r g o p =
    subst (λ (us : List Token). IsBegun us m n) (sym r.tokens_are)
    (begun r.pieces m n (closer_back r.pieces [] n m t k (ap (λ us. slice_get us n) (sym r.tokens_are) ∙ g) o p))

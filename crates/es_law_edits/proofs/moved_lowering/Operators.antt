-- The operators that tokens are stay.
use Rattle.std.specs.Prelude.{ℕ, ◌-◌, false, Option, List}
use Rattle.es_token.specs.declared.token.Token.{Token}
use Rattle.es_token.specs.declared.token.TokenKind.{TokenKind}
use Rattle.es_token.specs.declared.token.TokenKind.TheVariants as k
use Rattle.grammar_theory.specs.Key.{same_kind}
use Rattle.es_lowering.specs.Operators.{is_kind, is_kind_at, greater_op, binary_of, assign_of, binary_between, assign_between}
use Rattle.std.proofs.Common.{◌≡◌, ap}
use Rattle.es_law_edits.proofs.moved.Rel.{Opt, Same, none, some}
use Rattle.es_law_edits.specs.moved.Move.{Move}
use Rattle.es_law_edits.proofs.moved_lowering.Frame.{Texts, TokenMoves, given_moves, if_moves, kind_moves, listed_moves, opt_same, or_else_moves, same, slice_get_moves, three, two}
use Rattle.es_law_edits.proofs.moved_lowering.Leaves.{kind_there_moves}

pub is_kind_moves : {m : Move} {ts : List Token} {kind kind2 : TokenKind} → kind2 ≡ kind → {b b2 : Option Token}
    → Opt (TokenMoves m ts) b b2 → is_kind kind2 b2 ≡ is_kind kind b
is_kind_moves kind_ (some t_) = two same_kind (kind_moves t_) kind_
is_kind_moves kind_ none = same false

pub is_kind_at_moves : {m : Move} {x y : List ℕ} {ts us : List Token} → Texts m x y ts us → {kind kind2 : TokenKind}
    → kind2 ≡ kind → {n n2 : ℕ} → n2 ≡ n → is_kind_at us kind2 n2 ≡ is_kind_at ts kind n
is_kind_at_moves told kind_ n_ = is_kind_moves kind_ (slice_get_moves told _ _ n_)

pub binary_of_moves : {m : Move} {x y : List ℕ} {ts us : List Token} → Texts m x y ts us → {kind kind2 : TokenKind}
    → kind2 ≡ kind → {from from2 : ℕ} → from2 ≡ from → {to to2 : ℕ} → to2 ≡ to
    → Opt Same (binary_of ts kind from to) (binary_of us kind2 from2 to2)
unfolding binary_of
binary_of_moves told kind_ from_ to_ =
    if_moves (ap (λ kind. same_kind kind k.Greater) kind_)
    (opt_same (two (λ a b. greater_op a b) (two (λ a b. a - b) to_ from_)
    (is_kind_at_moves told (same k.Equal) (ap (λ n. n - 1) to_))))
    (or_else_moves (listed_moves _ kind_) (listed_moves _ kind_))

pub binary_between_moves : {m : Move} {x y : List ℕ} {ts us : List Token} → Texts m x y ts us → {from from2 : ℕ}
    → from2 ≡ from → {to to2 : ℕ} → to2 ≡ to → Opt Same (binary_between ts from to) (binary_between us from2 to2)
binary_between_moves told from_ to_ =
    given_moves (kind_there_moves told from_) (λ kind kind2 kind_. binary_of_moves told kind_ from_ to_)

pub assign_between_moves : {m : Move} {x y : List ℕ} {ts us : List Token} → Texts m x y ts us → {from from2 : ℕ}
    → from2 ≡ from → {to to2 : ℕ} → to2 ≡ to → Opt Same (assign_between ts from to) (assign_between us from2 to2)
assign_between_moves told from_ to_ =
    given_moves (kind_there_moves told from_)
    (λ kind kind2 kind_. opt_same (three (λ a b c. assign_of a b c) kind_ from_ to_))

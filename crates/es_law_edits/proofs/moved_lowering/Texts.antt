-- Names, literals and pieces of templates among the parts of a node move.
use Rattle.std.specs.Prelude.{ℕ, true, false, List}
use Rattle.es_token.specs.declared.token.Token.{Token}
use Rattle.es_token.specs.declared.token.TokenKind.TheVariants as k
use Rattle.grammar_theory.specs.Key.{same_kind}
use Rattle.es_ast.specs.declared.ts.leaf.Str.{Str}
use Rattle.es_lowering.specs.Value.{Value}
use Rattle.es_lowering.specs.Texts.{token_at, kind_at, ident_at, private_at, str_at, numeric_at, piece_there, shebang_at, property_of, property_at, name_of, name_at, this_or_name_of, this_or_name_at, own_name_of, own_name_at}
use Rattle.std.proofs.Common.{◌≡◌, ap}
use Rattle.es_law_edits.proofs.moved.Leaves.{ts_this_type_or_ident_Ident, ts_this_type_or_ident_This}
use Rattle.es_law_edits.proofs.moved.ModuleLeaves.{module_export_name_Ident, module_export_name_Str}
use Rattle.es_law_edits.proofs.moved.Rel.{Both, By, Opt, Same, some}
use Rattle.es_law_edits.specs.moved.Leaves.{ident_to, str_to, tpl_element_to, ts_this_type_or_ident_to}
use Rattle.es_law_edits.specs.moved.ModuleLeaves.{lit_to, module_export_name_to}
use Rattle.es_law_edits.specs.moved.Move.{Move}
use Rattle.es_law_edits.proofs.moved_lowering.Frame.{Moves, Texts, TokenMoves, as_group_moves, given_moves, gone, if_any, if_moves, kind_moves, leaf, made, map_moves, optional_moves, over, pair, part_moves, place_moves, same, slice_get_moves}
use Rattle.es_law_edits.proofs.moved_lowering.Leaves.{ident_of_moves, numeric_of_moves, piece_of_moves, private_of_moves, shebang_of_moves, str_of_moves, token_of_moves}

pub token_at_moves : {m : Move} {x y : List ℕ} {ts us : List Token} → Texts m x y ts us → {p p2 : Value} → Moves m p p2
    → {n n2 : ℕ} → n2 ≡ n → Opt (TokenMoves m ts) (token_at ts p n) (token_at us p2 n2)
token_at_moves told p_ n_ = token_of_moves told (part_moves p_ n_)

pub kind_at_moves : {m : Move} {x y : List ℕ} {ts us : List Token} → Texts m x y ts us → {p p2 : Value} → Moves m p p2
    → {n n2 : ℕ} → n2 ≡ n → Opt Same (kind_at ts p n) (kind_at us p2 n2)
kind_at_moves told p_ n_ = map_moves _ _ (token_at_moves told p_ n_) (λ t t2 t_. (kind_moves t_))

pub ident_at_moves : {m : Move} {x y : List ℕ} {ts us : List Token} → Texts m x y ts us → {p p2 : Value} → Moves m p p2
    → {n n2 : ℕ} → n2 ≡ n → Opt (By (ident_to m)) (ident_at x ts p n) (ident_at y us p2 n2)
ident_at_moves told p_ n_ = map_moves _ _ (token_at_moves told p_ n_) (λ a a2 a_. ident_of_moves told a_)

pub private_at_moves : {m : Move} {x y : List ℕ} {ts us : List Token} → Texts m x y ts us → {p p2 : Value}
    → Moves m p p2 → {n n2 : ℕ} → n2 ≡ n → Opt (By (ident_to m)) (private_at x ts p n) (private_at y us p2 n2)
private_at_moves told p_ n_ = given_moves (token_at_moves told p_ n_) (λ a a2 a_. private_of_moves told a_)

pub str_at_moves : {m : Move} {x y : List ℕ} {ts us : List Token} → Texts m x y ts us → {p p2 : Value} → Moves m p p2
    → {n n2 : ℕ} → n2 ≡ n → Opt (By (str_to m)) (str_at x ts p n) (str_at y us p2 n2)
str_at_moves told p_ n_ = map_moves _ _ (token_at_moves told p_ n_) (λ a a2 a_. str_of_moves told a_)

pub numeric_at_moves : {m : Move} {x y : List ℕ} {ts us : List Token} → Texts m x y ts us → {p p2 : Value}
    → Moves m p p2 → {n n2 : ℕ} → n2 ≡ n → Opt (By (lit_to m)) (numeric_at x ts p n) (numeric_at y us p2 n2)
numeric_at_moves told p_ n_ = given_moves (token_at_moves told p_ n_) (λ a a2 a_. numeric_of_moves told a_)

pub piece_there_moves : {m : Move} {x y : List ℕ} {ts us : List Token} → Texts m x y ts us → {p p2 : Value}
    → Moves m p p2 → {n n2 : ℕ} → n2 ≡ n → Opt (By (tpl_element_to m)) (piece_there x ts p n) (piece_there y us p2 n2)
piece_there_moves told p_ n_ = given_moves (token_at_moves told p_ n_) (λ a a2 a_. piece_of_moves told a_)

pub shebang_at_moves : {m : Move} {x y : List ℕ} {ts us : List Token} → Texts m x y ts us → {p p2 : Value}
    → Moves m p p2 → {n n2 : ℕ} → n2 ≡ n → Opt Same (shebang_at x ts p n) (shebang_at y us p2 n2)
shebang_at_moves told p_ n_ = given_moves (token_at_moves told p_ n_) (λ a a2 a_. shebang_of_moves told a_)

pub property_of_moves : {m : Move} {x y : List ℕ} {ts us : List Token} → Texts m x y ts us → {t t2 : Token}
    → TokenMoves m ts t t2 → Opt (Both Same (By (ident_to m))) (property_of x t) (property_of y t2)
unfolding property_of
property_of_moves told t_ =
    if_moves (ap (λ kind. same_kind kind k.PrivateName) (kind_moves t_))
    (map_moves _ _ (private_of_moves told t_) (λ name name2 name_. (same true, name_)))
    (some (same false, ident_of_moves told t_))

pub property_at_moves : {m : Move} {x y : List ℕ} {ts us : List Token} → Texts m x y ts us → {p p2 : Value}
    → Moves m p p2 → {n n2 : ℕ} → n2 ≡ n
    → Opt (Both Same (By (ident_to m))) (property_at x ts p n) (property_at y us p2 n2)
property_at_moves told p_ n_ = given_moves (token_at_moves told p_ n_) (λ a a2 a_. property_of_moves told a_)

pub name_of_moves : {m : Move} {x y : List ℕ} {ts us : List Token} → Texts m x y ts us → {t t2 : Token}
    → TokenMoves m ts t t2 → By (module_export_name_to m) (name_of x t) (name_of y t2)
unfolding name_of
name_of_moves {m = m} told t_ =
    if_any (By (module_export_name_to m)) (ap (λ kind. same_kind kind k.Str) (kind_moves t_))
    (module_export_name_Str m (str_of_moves told t_)) (module_export_name_Ident m (ident_of_moves told t_))

pub name_at_moves : {m : Move} {x y : List ℕ} {ts us : List Token} → Texts m x y ts us → {p p2 : Value} → Moves m p p2
    → {n n2 : ℕ} → n2 ≡ n → Opt (By (module_export_name_to m)) (name_at x ts p n) (name_at y us p2 n2)
name_at_moves told p_ n_ = map_moves _ _ (token_at_moves told p_ n_) (λ a a2 a_. name_of_moves told a_)

pub this_or_name_of_moves : {m : Move} {x y : List ℕ} {ts us : List Token} → Texts m x y ts us → {t t2 : Token}
    → TokenMoves m ts t t2 → By (ts_this_type_or_ident_to m) (this_or_name_of x t) (this_or_name_of y t2)
unfolding this_or_name_of
this_or_name_of_moves {m = m} told t_ =
    if_any (By (ts_this_type_or_ident_to m)) (ap (λ kind. same_kind kind k.ThisWord) (kind_moves t_))
    (ts_this_type_or_ident_This m (place_moves t_)) (ts_this_type_or_ident_Ident m (ident_of_moves told t_))

pub this_or_name_at_moves : {m : Move} {x y : List ℕ} {ts us : List Token} → Texts m x y ts us → {p p2 : Value}
    → Moves m p p2 → {n n2 : ℕ} → n2 ≡ n
    → Opt (By (ts_this_type_or_ident_to m)) (this_or_name_at x ts p n) (this_or_name_at y us p2 n2)
this_or_name_at_moves told p_ n_ = map_moves _ _ (token_at_moves told p_ n_) (λ a a2 a_. this_or_name_of_moves told a_)

pub own_name_of_moves : {m : Move} {x y : List ℕ} {ts us : List Token} → Texts m x y ts us → {v v2 : Value}
    → Moves m v v2 → Opt (Opt (By (ident_to m))) (own_name_of x ts v) (own_name_of y us v2)
own_name_of_moves told (leaf n) =
    map_moves _ _ (slice_get_moves told _ _ (same n)) (λ t t2 t_. some (ident_of_moves told t_))
own_name_of_moves {m = m} told gone =
    optional_moves (λ a a2 a_ b b2 b_. ident_at_moves told a_ b_) (as_group_moves {m = m} gone)
own_name_of_moves {m = m} told over =
    optional_moves (λ a a2 a_ b b2 b_. ident_at_moves told a_ b_) (as_group_moves {m = m} over)
own_name_of_moves told (pair a b) =
    optional_moves (λ a a2 a_ b b2 b_. ident_at_moves told a_ b_) (as_group_moves (pair a b))
own_name_of_moves told (made a b c) =
    optional_moves (λ a a2 a_ b b2 b_. ident_at_moves told a_ b_) (as_group_moves (made a b c))

pub own_name_at_moves : {m : Move} {x y : List ℕ} {ts us : List Token} → Texts m x y ts us → {p p2 : Value}
    → Moves m p p2 → {n n2 : ℕ} → n2 ≡ n → Opt (Opt (By (ident_to m))) (own_name_at x ts p n) (own_name_at y us p2 n2)
own_name_at_moves told p_ n_ = own_name_of_moves told (part_moves p_ n_)

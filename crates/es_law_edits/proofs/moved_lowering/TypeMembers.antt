-- What members of types in braces become moves with their parts.
use Rattle.std.specs.Prelude.{ℕ, ◌+◌, Bool, List}
use Rattle.base.specs.declared.range.Range.{Range}
use Rattle.es_token.specs.declared.token.Token.{Token}
use Rattle.es_ast.specs.declared.ts.leaf.MethodKind.{MethodKind}
use Rattle.es_lowering.specs.Value.{Value}
use Rattle.es_lowering.specs.TypeMembers.{call_signature, construct_signature, index_signature, method_by, accessor_signature, property_by, inner_key, bracket_key, computed_key}
use Rattle.std.proofs.Common.{◌≡◌, ap}
use Rattle.es_law_edits.proofs.moved.Leaves.{ts_key_ComputedStr, ts_key_Entity}
use Rattle.es_law_edits.proofs.moved.Rel.{By, Opt, some}
use Rattle.es_law_edits.proofs.moved.Types.{ts_type_element_CallSignature, ts_type_element_ConstructSignature, ts_type_element_IndexSignature, ts_type_element_MethodSignature, ts_type_element_PropertySignature}
use Rattle.es_law_edits.specs.moved.Leaves.{ts_key_to}
use Rattle.es_law_edits.specs.moved.Move.{Move, range_to}
use Rattle.es_law_edits.specs.moved.Types.{ts_type_element_to}
use Rattle.es_law_edits.proofs.moved_lowering.Frame.{Moves, Texts, given_moves, gone, is_there_moves, leaf, listed_moves, made, map_moves, optional_moves, over, pair, same}
use Rattle.es_law_edits.proofs.moved_lowering.Texts.{ident_at_moves, kind_at_moves, str_at_moves, token_at_moves}
use Rattle.es_law_edits.proofs.moved_lowering.TypeTexts.{computed_numeric_moves}
use Rattle.es_law_edits.proofs.moved_lowering.Value.{entity_at_moves, fn_params_at_moves, group_moves, type_at_moves, type_key_at_moves, type_params_at_moves}

pub call_signature_moves : {m : Move} {r r2 : Range} → By (range_to m) r r2 → {p p2 : Value} → Moves m p p2
    → Opt (By (ts_type_element_to m)) (call_signature r p) (call_signature r2 p2)
unfolding call_signature
call_signature_moves {m = m} r_ p_ =
    given_moves (optional_moves (λ a a2 a_ b b2 b_. type_params_at_moves a_ b_) (group_moves p_ (same 0)))
    (λ type_params type_params2 type_params_. given_moves (fn_params_at_moves p_ (same 1))
    (λ params params2 params_. given_moves
    (optional_moves (λ a a2 a_ b b2 b_. type_at_moves a_ b_) (group_moves p_ (same 2)))
    (λ ty ty2 ty_. some (ts_type_element_CallSignature m type_params_ params_ ty_ r_))))

pub construct_signature_moves : {m : Move} {r r2 : Range} → By (range_to m) r r2 → {p p2 : Value} → Moves m p p2
    → Opt (By (ts_type_element_to m)) (construct_signature r p) (construct_signature r2 p2)
unfolding construct_signature
construct_signature_moves {m = m} r_ p_ =
    given_moves (optional_moves (λ a a2 a_ b b2 b_. type_params_at_moves a_ b_) (group_moves p_ (same 0)))
    (λ type_params type_params2 type_params_. given_moves (fn_params_at_moves p_ (same 1))
    (λ params params2 params_. given_moves
    (optional_moves (λ a a2 a_ b b2 b_. type_at_moves a_ b_) (group_moves p_ (same 2)))
    (λ ty ty2 ty_. some (ts_type_element_ConstructSignature m type_params_ params_ ty_ r_))))

pub index_signature_moves : {m : Move} {x y : List ℕ} {ts us : List Token} → Texts m x y ts us → {r r2 : Range}
    → By (range_to m) r r2 → {p p2 : Value} → Moves m p p2
    → Opt (By (ts_type_element_to m)) (index_signature x ts r p) (index_signature y us r2 p2)
unfolding index_signature
index_signature_moves {m = m} told r_ p_ =
    given_moves (ident_at_moves told p_ (same 1))
    (λ name name2 name_. given_moves (type_at_moves p_ (same 2))
    (λ of of2 of_. given_moves
    (optional_moves (λ a a2 a_ b b2 b_. type_at_moves a_ b_) (group_moves p_ (same 3)))
    (λ ty ty2 ty_. some (ts_type_element_IndexSignature m (is_there_moves (group_moves p_ (same 0)))
    name_ of_ ty_ r_))))

pub method_by_moves : {m : Move} {kind kind2 : MethodKind} → kind2 ≡ kind → {r r2 : Range} → By (range_to m) r r2
    → {p p2 : Value} → Moves m p p2 → {n n2 : ℕ} → n2 ≡ n
    → Opt (By (ts_type_element_to m)) (method_by kind r p n) (method_by kind2 r2 p2 n2)
unfolding method_by
method_by_moves {m = m} kind_ r_ p_ n_ =
    given_moves (type_key_at_moves p_ n_)
    (λ key key2 key_. given_moves
    (optional_moves (λ a a2 a_ b b2 b_. type_params_at_moves a_ b_) (group_moves p_ (ap (λ n. n + 2) n_)))
    (λ type_params type_params2 type_params_. given_moves (fn_params_at_moves p_ (ap (λ n. n + 3) n_))
    (λ params params2 params_. given_moves
    (optional_moves (λ a a2 a_ b b2 b_. type_at_moves a_ b_) (group_moves p_ (ap (λ n. n + 4) n_)))
    (λ ty ty2 ty_. some (ts_type_element_MethodSignature m kind_ key_
    (is_there_moves (group_moves p_ (ap (λ n. n + 1) n_))) type_params_ params_ ty_ r_)))))

pub accessor_signature_moves : {m : Move} {x y : List ℕ} {ts us : List Token} → Texts m x y ts us → {r r2 : Range}
    → By (range_to m) r r2 → {p p2 : Value} → Moves m p p2
    → Opt (By (ts_type_element_to m)) (accessor_signature ts r p) (accessor_signature us r2 p2)
unfolding accessor_signature
accessor_signature_moves told r_ p_ =
    given_moves (given_moves (kind_at_moves told p_ (same 0)) (λ a a2 a_. listed_moves _ a_))
    (λ kind kind2 kind_. method_by_moves kind_ r_ p_ (same 1))

pub property_by_moves : {m : Move} {readonly readonly2 : Bool} → readonly2 ≡ readonly → {r r2 : Range}
    → By (range_to m) r r2 → {p p2 : Value} → Moves m p p2
    → Opt (By (ts_type_element_to m)) (property_by readonly r p) (property_by readonly2 r2 p2)
unfolding property_by
property_by_moves {m = m} readonly_ r_ p_ =
    given_moves (type_key_at_moves p_ (same 0))
    (λ key key2 key_. given_moves
    (optional_moves (λ a a2 a_ b b2 b_. type_at_moves a_ b_) (group_moves p_ (same 2)))
    (λ ty ty2 ty_. some (ts_type_element_PropertySignature m readonly_ key_
    (is_there_moves (group_moves p_ (same 1))) ty_ r_)))

pub inner_key_moves : {m : Move} {x y : List ℕ} {ts us : List Token} → Texts m x y ts us → {r r2 : Range}
    → By (range_to m) r r2 → {g g2 : Value} → Moves m g g2
    → Opt (By (ts_key_to m)) (inner_key x ts r g) (inner_key y us r2 g2)
inner_key_moves told r_ (pair (leaf n) vs_) =
    given_moves (token_at_moves told (pair (leaf n) vs_) (same 0)) (λ a a2 a_. computed_numeric_moves told r_ a_)
inner_key_moves {m = m} told r_ gone =
    map_moves _ _ (entity_at_moves gone (same 0)) (λ name name2 name_. ts_key_Entity m name_ r_)
inner_key_moves {m = m} told r_ over =
    map_moves _ _ (entity_at_moves over (same 0)) (λ name name2 name_. ts_key_Entity m name_ r_)
inner_key_moves {m = m} told r_ (pair gone a) =
    map_moves _ _ (entity_at_moves (pair gone a) (same 0)) (λ name name2 name_. ts_key_Entity m name_ r_)
inner_key_moves {m = m} told r_ (pair over a) =
    map_moves _ _ (entity_at_moves (pair over a) (same 0)) (λ name name2 name_. ts_key_Entity m name_ r_)
inner_key_moves {m = m} told r_ (pair (pair a b) c) =
    map_moves _ _ (entity_at_moves (pair (pair a b) c) (same 0)) (λ name name2 name_. ts_key_Entity m name_ r_)
inner_key_moves {m = m} told r_ (pair (made a b c) d) =
    map_moves _ _ (entity_at_moves (pair (made a b c) d) (same 0)) (λ name name2 name_. ts_key_Entity m name_ r_)
inner_key_moves {m = m} told r_ (leaf a) =
    map_moves _ _ (entity_at_moves (leaf a) (same 0)) (λ name name2 name_. ts_key_Entity m name_ r_)
inner_key_moves {m = m} told r_ (made a b c) =
    map_moves _ _ (entity_at_moves (made a b c) (same 0)) (λ name name2 name_. ts_key_Entity m name_ r_)

pub bracket_key_moves : {m : Move} {x y : List ℕ} {ts us : List Token} → Texts m x y ts us → {r r2 : Range}
    → By (range_to m) r r2 → {g g2 : Value} → Moves m g g2
    → Opt (By (ts_key_to m)) (bracket_key x ts r g) (bracket_key y us r2 g2)
bracket_key_moves {m = m} told r_ (pair (leaf n) vs_) =
    map_moves _ _ (str_at_moves told (pair (leaf n) vs_) (same 0)) (λ s s2 s_. ts_key_ComputedStr m s_ r_)
bracket_key_moves told r_ gone = inner_key_moves told r_ (group_moves gone (same 0))
bracket_key_moves told r_ over = inner_key_moves told r_ (group_moves over (same 0))
bracket_key_moves told r_ (pair gone a) = inner_key_moves told r_ (group_moves (pair gone a) (same 0))
bracket_key_moves told r_ (pair over a) = inner_key_moves told r_ (group_moves (pair over a) (same 0))
bracket_key_moves told r_ (pair (pair a b) c) = inner_key_moves told r_ (group_moves (pair (pair a b) c) (same 0))
bracket_key_moves told r_ (pair (made a b c) d) = inner_key_moves told r_ (group_moves (pair (made a b c) d) (same 0))
bracket_key_moves told r_ (leaf a) = inner_key_moves told r_ (group_moves (leaf a) (same 0))
bracket_key_moves told r_ (made a b c) = inner_key_moves told r_ (group_moves (made a b c) (same 0))

pub computed_key_moves : {m : Move} {x y : List ℕ} {ts us : List Token} → Texts m x y ts us → {r r2 : Range}
    → By (range_to m) r r2 → {p p2 : Value} → Moves m p p2
    → Opt (By (ts_key_to m)) (computed_key x ts r p) (computed_key y us r2 p2)
unfolding computed_key
computed_key_moves told r_ p_ = bracket_key_moves told r_ (group_moves p_ (same 0))

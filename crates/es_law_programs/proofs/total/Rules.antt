-- What each tree of a row may be read as, by what is claimed of the rows and of the parts of each alternative.
use Rattle.std.specs.Prelude.{List, Bool, true, false, ◌&&◌, ◌||◌, Option, Some, None, option_map}
use Rattle.std.proofs.Common.{◌≡◌, ℕ, zero, suc, refl, sym, ap, subst, inl, inr, ◌∙◌}
use Rattle.es_token.specs.declared.token.Token.{Token}
use Rattle.grammar_theory.specs.Key.{seen, keys_of}
use Rattle.grammar_theory.specs.Productions.{Predict, Rhs, Production, refuse, make, choose, as_, pick, wrap}
use Rattle.grammar_theory.specs.Plain.{Plain, node, cons, via, made}
use Rattle.grammar_theory.specs.Fits.{Reading, Present, Wraps, Fits, IsBy, Under}
use Rattle.grammar_theory.proofs.Progress.{both_hold}
use Rattle.grammar_theory.proofs.OutLemmas.{clash}
use Rattle.es_grammar.specs.declared.rows.Row.{Row}
use Rattle.es_grammar.specs.declared.rows.NodeKind.{NodeKind}
use Rattle.es_grammar.specs.cst.Slim.{tree_of}
use Rattle.es_ast.specs.declared.ast.Pat.TheVariants as vPat
use Rattle.es_lowering.specs.Value.{Typed, Value, part, behind}
use Rattle.es_lowering.specs.Value.{absent as no_part, node as made_node}
use Rattle.es_lowering.specs.Texts.{span_of}
use Rattle.es_lowering.specs.Lowering.{build, target_of, as_target}
use Rattle.es_lowering.proofs.Equations.{value_node, value_role}
use Rattle.es_law_programs.proofs.total.Uses.{Use, as_expr, as_pat, as_head, IsThere, HasAt, same_use, same_uses}
use Rattle.es_law_programs.proofs.total.Needs.{Needs, of, Meets, told, stands_once, StandsOnce, or_asks, covers}
use Rattle.es_law_programs.proofs.total.Sound.{IsNode, value, values, parts_of, either_holds, form_meets, no_more_turns, no_second_turn}

-- a node in the role of a target is a pattern and a head
abbrev pub is_target : Use → Bool
is_target as_pat = true
is_target as_head = true
is_target _ = false

target_there : {A B : Type 0} (o : Option A) (f : A → B) → IsThere o → IsThere (option_map f o)
target_there (Some a) f h = tt
target_there None f h = absurd h

-- the nodes of these alternatives have no turn behind a turn, by predicates
abbrev pub IfShut : Bool → Predict → Rhs Row → Type 0
IfShut true c f = StandsOnce c f
IfShut false c f = Unit {0}

abbrev pub Shuts : (NodeKind → Bool) → Production Row NodeKind → Type 0
Shuts shut refuse = Unit {0}
Shuts shut (make l f) = Unit {0}
Shuts shut (choose t a b) = Shuts shut a × Shuts shut b
Shuts shut (as_ w a) = Shuts shut a
Shuts shut (pick g a b) = Shuts shut a × Shuts shut b
Shuts shut (wrap l a c f) = Shuts shut a × IfShut (shut l) c f

once_of : (b : Bool) (c : Predict) (f : Rhs Row) → IfShut b c f → b ≡ true → StandsOnce c f
once_of true c f once e = once
once_of false c f once e = clash e

module _ (yields : Row → Use → Bool) (needs : NodeKind → Use → Needs) where
  -- a turn behind an operand that is read as the turn is
  abbrev pub turn_self : Use → Rhs Row → Needs → Bool
  turn_self u f (of w s) = same_use w u && covers yields true f s
  turn_self u f _ = false

  -- a turn behind an operand, which is read in another way: either it stands once, or turns may be read so too
  abbrev pub turn_ok : Bool → NodeKind → Use → (Use → Bool) → Predict → Rhs Row → Needs → Bool
  turn_ok shut l u operand c f (of w s) =
      covers yields true f s
      && or_asks (same_use w u) (λ b. operand w && (stands_once c f || (shut || turn_self w f (needs l w))))
  turn_ok shut l u operand c f _ = false

  -- each alternative of the rule may be read so
  abbrev pub rule_ok : (NodeKind → Bool) → Production Row NodeKind → Use → Bool
  rule_ok shut refuse u = true
  rule_ok shut (make l f) u = covers yields false f (needs l u)
  rule_ok shut (choose t a b) u = rule_ok shut a u && rule_ok shut b u
  rule_ok shut (as_ w a) u = is_target u && rule_ok shut a as_expr
  rule_ok shut (pick g a b) u = rule_ok shut a u && rule_ok shut b u
  rule_ok shut (wrap l a c f) u = rule_ok shut a u && turn_ok (shut l) l u (rule_ok shut a) c f (needs l u)

  module _ (x : List ℕ) (ts : List Token)
      (built : (l : NodeKind) (u : Use) (from to : ℕ) (p : Value) → Meets ts no_part (needs l u) (part p)
      → HasAt u (made_node from to (build x ts l from (span_of ts from to) p)))
      (h : Reading)
      (asks : (c : Predict) (at : ℕ) → Present h c (keys_of ts) at → told c (seen (keys_of ts) at) ≡ true) where
    has_moved : (u : Use) (v w : Value) → v ≡ w → HasAt u w → HasAt u v
    has_moved u v w e has = subst (HasAt u) (sym e) has

    has_made : (u : Use) (p q : Plain NodeKind) → p ≡ q → HasAt u (value x ts q) → HasAt u (value x ts p)
    has_made u p q e has = let P : Plain NodeKind → Type 0 = λ t. HasAt u (value x ts t) in subst P (sym e) has

    -- a target
    target_has : (u : Use) → is_target u ≡ true → (from to : ℕ) (m : Typed) → HasAt as_expr (made_node from to m)
        → HasAt u (as_target x ts (made_node from to m))
    target_has as_pat e from to m has = target_there m.expr vPat.Expr has
    target_has as_head e from to m has = target_there m.expr (λ target. (None, vPat.Expr target)) has
    target_has _ e from to m has = clash e

    role_has : (u : Use) → is_target u ≡ true → (l : NodeKind) (q : Plain NodeKind) (from to : ℕ)
        → IsNode (value x ts q) from to → HasAt as_expr (value x ts q) → HasAt u (value x ts (via l q))
    unfolding made
    role_has u e l q from to n has =
        has_moved u (value x ts (via l q)) (as_target x ts (value x ts q)) (value_role x ts l (tree_of q))
        (has_moved u (as_target x ts (value x ts q)) (as_target x ts (made_node from to n.0)) (ap (as_target x ts) n.1)
        (target_has u e from to n.0 (subst (HasAt as_expr) n.1 has)))

    -- ---- nodes
    node_value : (l : NodeKind) (from to : ℕ) (ps : Plain NodeKind)
        → value x ts (node l from to ps) ≡ made_node from to (build x ts l from (span_of ts from to) (values x ts ps))
    unfolding made
    node_value l from to ps = value_node x ts l from to (parts_of ps)

    is_moved : (p q : Plain NodeKind) (from to : ℕ) → p ≡ q → IsNode (value x ts q) from to
        → IsNode (value x ts p) from to
    is_moved p q from to e n = let P : Plain NodeKind → Type 0 = λ t. IsNode (value x ts t) from to in subst P (sym e) n

    made_is : (l : NodeKind) (from to : ℕ) (p ps : Plain NodeKind) → p ≡ node l from to ps
        → IsNode (value x ts p) from to
    made_is l from to p ps e =
        is_moved p (node l from to ps) from to e
        (build x ts l from (span_of ts from to) (values x ts ps), node_value l from to ps)

    made_has : (l : NodeKind) (u : Use) (from to : ℕ) (p ps : Plain NodeKind) → p ≡ node l from to ps
        → Meets ts no_part (needs l u) (part (values x ts ps)) → HasAt u (value x ts p)
    made_has l u from to p ps e meets =
        has_made u p (node l from to ps) e
        (has_moved u (value x ts (node l from to ps))
        (made_node from to (build x ts l from (span_of ts from to) (values x ts ps))) (node_value l from to ps)
        (built l u from to (values x ts ps) meets))

    role_is : (l : NodeKind) (q : Plain NodeKind) (from to : ℕ) → IsNode (value x ts q) from to
        → IsNode (value x ts (via l q)) from to
    unfolding made
    role_is l q from to n =
        (target_of x ts n.0.expr, value_role x ts l (tree_of q) ∙ ap (as_target x ts) n.1)

    module _ (Below : Row → Plain NodeKind → ℕ → ℕ → Type 0) where
      wraps_is : (l : NodeKind) (c : Predict) (A B : Plain NodeKind → ℕ → ℕ → Type 0)
          → ((q : Plain NodeKind) (from mid : ℕ) → A q from mid → IsNode (value x ts q) from mid)
          → (n : ℕ) (p : Plain NodeKind) (from to : ℕ) → Wraps h (keys_of ts) l c A B n p from to
          → IsNode (value x ts p) from to
      wraps_is l c A B one zero p from to fit = one p from to fit
      wraps_is l c A B one (suc n) p from to fit = made_is l from to p (cons fit.0 fit.1) fit.3

      rule_is : (a : Production Row NodeKind) (p : Plain NodeKind) (from to : ℕ) → IsBy h (keys_of ts) Below a p from to
          → IsNode (value x ts p) from to
      rule_is refuse p from to by = absurd by
      rule_is (make l f) p from to by = made_is l from to p by.0 by.1
      rule_is (choose t a b) p from to by = elim by [
        | inl one ↦ rule_is a p from to one.1
        | inr other ↦ rule_is b p from to other.1
      ]
      rule_is (as_ w a) p from to by =
          is_moved p (via w by.0) from to by.1 (role_is w by.0 from to (rule_is a by.0 from to by.2))
      rule_is (pick g a b) p from to by = elim by [
        | inl one ↦ rule_is a p from to one.1
        | inr other ↦ rule_is b p from to other.1
      ]
      rule_is (wrap l a c f) p from to by =
          wraps_is l c (IsBy h (keys_of ts) Below a) (Fits h (keys_of ts) Below f) (rule_is a) by.0 p from to by.1

      module _ (nodes : (r : Row) (q : Plain NodeKind) (from mid : ℕ) → Below r q from mid
          → IsNode (value x ts q) from mid)
          (reads : (r : Row) (u : Use) → yields r u ≡ true → (q : Plain NodeKind) (from mid : ℕ) → Below r q from mid
          → HasAt u (value x ts q)) where
        -- the operand of a turn, where it isn't read as the turn is
        first_operand : (l : NodeKind) (c : Predict) (A : Plain NodeKind → ℕ → ℕ → Type 0) (f : Rhs Row) (w : Use)
            → ((q : Plain NodeKind) (from mid : ℕ) → Fits h (keys_of ts) Below f q from mid
            → Present h c (keys_of ts) mid → ⊥)
            → ((q : Plain NodeKind) (from mid : ℕ) → A q from mid → HasAt w (value x ts q))
            → (n : ℕ) (q : Plain NodeKind) (from mid : ℕ)
            → Wraps h (keys_of ts) l c A (Fits h (keys_of ts) Below f) n q from mid
            → Present h c (keys_of ts) mid → HasAt w (value x ts q)
        first_operand l c A f w once operand zero q from mid fit next = operand q from mid fit
        first_operand l c A f w once operand (suc n) q from mid fit next =
            absurd (once fit.1 fit.2 mid fit.6 next)

        turn_has : (u w : Use) (l : NodeKind) (f : Rhs Row) (s : Needs) → needs l u ≡ of w s
            → covers yields true f s ≡ true
            → (p q ps : Plain NodeKind) (from mid to : ℕ) → p ≡ node l from to (cons q ps)
            → IsNode (value x ts q) from mid → HasAt w (value x ts q) → Fits h (keys_of ts) Below f ps mid to
            → HasAt u (value x ts p)
        unfolding made
        turn_has u w l f s same covered p q ps from mid to e q_is head fit =
            let P : Needs → Type 0 = λ N. Meets ts no_part N (part (values x ts (cons q ps))) in
            let meets : P (of w s) = (
              head,
              form_meets x ts h Below yields nodes reads true f s covered (value x ts q) ps mid to
                  (λ e. ap behind q_is.1) fit,
            ) in
            made_has l u from to p (cons q ps) e (subst P (sym same) meets)

        use_moved : (a b : Use) (v : Value) → a ≡ b → HasAt b v → HasAt a v
        use_moved a b v e has = let P : Use → Type 0 = λ u. HasAt u v in subst P (sym e) has

        module _ (shut : Bool) (l : NodeKind) (c : Predict) (A : Plain NodeKind → ℕ → ℕ → Type 0) (f : Rhs Row)
            (shuts : IfShut shut c f)
            (is : (q : Plain NodeKind) (from mid : ℕ) → A q from mid → IsNode (value x ts q) from mid) where
          -- turns each of which is read as its operand is
          wraps_alike : (u w : Use) (s : Needs)
              → ((q : Plain NodeKind) (from mid : ℕ) → A q from mid → HasAt u (value x ts q))
              → needs l u ≡ of w s → w ≡ u → covers yields true f s ≡ true
              → (n : ℕ) (p : Plain NodeKind) (from to : ℕ)
              → Wraps h (keys_of ts) l c A (Fits h (keys_of ts) Below f) n p from to → HasAt u (value x ts p)
          wraps_alike u w s operand same alike covered zero p from to fit = operand p from to fit
          wraps_alike u w s operand same alike covered (suc n) p from to fit =
              turn_has u w l f s same covered p fit.0 fit.1 from fit.2 to fit.3
              (wraps_is l c A (Fits h (keys_of ts) Below f) is n fit.0 from fit.2 fit.4)
              (use_moved w u (value x ts fit.0) alike
              (wraps_alike u w s operand same alike covered n fit.0 from fit.2 fit.4)) fit.6

          wraps_self : (u : Use)
              → ((q : Plain NodeKind) (from mid : ℕ) → A q from mid → HasAt u (value x ts q))
              → (N : Needs) → needs l u ≡ N → turn_self u f N ≡ true
              → (n : ℕ) (p : Plain NodeKind) (from to : ℕ)
              → Wraps h (keys_of ts) l c A (Fits h (keys_of ts) Below f) n p from to → HasAt u (value x ts p)
          wraps_self u operand (of w s) same e n p from to fit =
              let both = both_hold (same_use w u) (covers yields true f s) e in
              wraps_alike u w s operand same (same_uses w u both.0) both.1 n p from to fit
          wraps_self u operand _ same e n p from to fit = clash e

          shut_or_self : (ok : Use → Bool)
              → ((w : Use) → ok w ≡ true → (q : Plain NodeKind) (from mid : ℕ) → A q from mid → HasAt w (value x ts q))
              → (w : Use) → ok w ≡ true → shut || turn_self w f (needs l w) ≡ true
              → (n : ℕ) (q : Plain NodeKind) (from mid : ℕ)
              → Wraps h (keys_of ts) l c A (Fits h (keys_of ts) Below f) n q from mid
              → Present h c (keys_of ts) mid → HasAt w (value x ts q)
          shut_or_self ok has w here e n q from mid fit next =
              elim (either_holds shut (turn_self w f (needs l w)) e) [
                | inl is_shut ↦
                    first_operand l c A f w (no_second_turn x ts h Below c f (once_of shut c f shuts is_shut))
                    (has w here) n q from mid fit next
                | inr self ↦ wraps_self w (has w here) (needs l w) refl self n q from mid fit
              ]

          operand_has : (ok : Use → Bool)
              → ((w : Use) → ok w ≡ true → (q : Plain NodeKind) (from mid : ℕ) → A q from mid → HasAt w (value x ts q))
              → (u w : Use) (s : Needs) → ok u ≡ true → needs l u ≡ of w s → covers yields true f s ≡ true
              → (alike : Bool) → same_use w u ≡ alike
              → or_asks alike (λ b. ok w && (stands_once c f || (shut || turn_self w f (needs l w)))) ≡ true
              → (n : ℕ) (q : Plain NodeKind) (from mid : ℕ)
              → Wraps h (keys_of ts) l c A (Fits h (keys_of ts) Below f) n q from mid
              → Present h c (keys_of ts) mid → HasAt w (value x ts q)
          operand_has ok has u w s here same covered true alike e n q from mid fit next =
              use_moved w u (value x ts q) (same_uses w u alike)
              (wraps_alike u w s (has u here) same (same_uses w u alike) covered n q from mid fit)
          operand_has ok has u w s here same covered false other e n q from mid fit next =
              let both = both_hold (ok w) (stands_once c f || (shut || turn_self w f (needs l w))) e in
              elim (either_holds (stands_once c f) (shut || turn_self w f (needs l w)) both.1) [
                | inl once ↦
                    first_operand l c A f w
                    (λ p start stop one then. no_more_turns x ts h Below c f once p start stop one (asks c stop then))
                    (has w both.0) n q from mid fit next
                | inr rest ↦ shut_or_self ok has w both.0 rest n q from mid fit next
              ]

          wraps_has : (ok : Use → Bool)
              → ((w : Use) → ok w ≡ true → (q : Plain NodeKind) (from mid : ℕ) → A q from mid → HasAt w (value x ts q))
              → (u : Use) → ok u ≡ true → (N : Needs) → needs l u ≡ N → turn_ok shut l u ok c f N ≡ true
              → (n : ℕ) (p : Plain NodeKind) (from to : ℕ)
              → Wraps h (keys_of ts) l c A (Fits h (keys_of ts) Below f) n p from to → HasAt u (value x ts p)
          wraps_has ok has u here N same e zero p from to fit = has u here p from to fit
          wraps_has ok has u here (of w s) same e (suc n) p from to fit =
              let both = both_hold (covers yields true f s)
              (or_asks (same_use w u) (λ b. ok w && (stands_once c f || (shut || turn_self w f (needs l w))))) e in
              turn_has u w l f s same both.0 p fit.0 fit.1 from fit.2 to fit.3
              (wraps_is l c A (Fits h (keys_of ts) Below f) is n fit.0 from fit.2 fit.4)
              (operand_has ok has u w s here same both.0 (same_use w u) refl both.1 n fit.0 from fit.2 fit.4 fit.5)
              fit.6
          wraps_has ok has u here _ same e (suc n) p from to fit = clash e

        rule_has : (shut : NodeKind → Bool) (a : Production Row NodeKind) → Shuts shut a → (u : Use)
            → rule_ok shut a u ≡ true → (p : Plain NodeKind) (from to : ℕ)
            → IsBy h (keys_of ts) Below a p from to → HasAt u (value x ts p)
        rule_has shut refuse shuts u e p from to by = absurd by
        rule_has shut (make l f) shuts u e p from to by =
            made_has l u from to p by.0 by.1
            (form_meets x ts h Below yields nodes reads false f (needs l u) e no_part by.0 from to (λ e. clash e) by.2)
        rule_has shut (choose t a b) shuts u e p from to by =
            let both = both_hold (rule_ok shut a u) (rule_ok shut b u) e in
            elim by [
              | inl one ↦ rule_has shut a shuts.0 u both.0 p from to one.1
              | inr other ↦ rule_has shut b shuts.1 u both.1 p from to other.1
            ]
        rule_has shut (as_ w a) shuts u e p from to by =
            let both = both_hold (is_target u) (rule_ok shut a as_expr) e in
            has_made u p (via w by.0) by.1
            (role_has u both.0 w by.0 from to (rule_is a by.0 from to by.2)
            (rule_has shut a shuts as_expr both.1 by.0 from to by.2))
        rule_has shut (pick g a b) shuts u e p from to by =
            let both = both_hold (rule_ok shut a u) (rule_ok shut b u) e in
            elim by [
              | inl one ↦ rule_has shut a shuts.0 u both.0 p from to one.1
              | inr other ↦ rule_has shut b shuts.1 u both.1 p from to other.1
            ]
        rule_has shut (wrap l a c f) shuts u e p from to by =
            let both = both_hold (rule_ok shut a u) (turn_ok (shut l) l u (rule_ok shut a) c f (needs l u)) e in
            wraps_has (shut l) l c (IsBy h (keys_of ts) Below a) f shuts.1 (rule_is a) (rule_ok shut a)
            (rule_has shut a shuts.0) u both.0 (needs l u) refl both.1 by.0 p from to by.1

    -- ---- rows
    module _ (rule : Row → Production Row NodeKind)
        (shut : Row → NodeKind → Bool) (shuts : (r : Row) → Shuts (shut r) (rule r))
        (claimed : (r : Row) (u : Use) → yields r u ≡ true → rule_ok (shut r) (rule r) u ≡ true) where
      row_is : (room : ℕ) (r : Row) (p : Plain NodeKind) (from to : ℕ) → Under h (keys_of ts) rule room r p from to
          → IsNode (value x ts p) from to
      unfolding Under
      row_is zero r p from to under = absurd under
      row_is (suc room) r p from to under = rule_is (Under h (keys_of ts) rule room) (rule r) p from to under

      -- each tree of a row may be read as is claimed of the row
      pub row_has : (room : ℕ) (r : Row) (u : Use) → yields r u ≡ true → (p : Plain NodeKind) (from to : ℕ)
          → Under h (keys_of ts) rule room r p from to → HasAt u (value x ts p)
      unfolding Under
      row_has zero r u e p from to under = absurd under
      row_has (suc room) r u e p from to under =
          rule_has (Under h (keys_of ts) rule room) (row_is room) (row_has room) (shut r) (rule r) (shuts r) u
          (claimed r u e) p from to under

-- A rule whose alternatives are named as another table names them.
use Rattle.grammar_theory.specs.Productions.{Production, refuse, make, choose, as_, pick, wrap}

-- the rule with its alternatives named so; its forms stay
abbrev pub labelled : {R L M : Type 0} → (L → M) → Production R L → Production R M
labelled w refuse = refuse
labelled w (make l f) = make (w l) f
labelled w (choose t a b) = choose t (labelled w a) (labelled w b)
labelled w (as_ l a) = as_ (w l) (labelled w a)
labelled w (pick g a b) = pick g (labelled w a) (labelled w b)
labelled w (wrap l a c f) = wrap (w l) (labelled w a) c f

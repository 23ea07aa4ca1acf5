-- The sections so far grow by one; at the end they are all, or have all that is wanted; a fault comes behind them.
use Rattle.std.proofs.Common.{◌++◌, ◌∷◌, [], refl, sym, ◌∙◌, inl, inr, arith}
use Rattle.std.proofs.lemmas.Result.{err_from_is_err_and}
use Rattle.wasm_dep_analyzer.specs.Sections.{first, have_all}
use Rattle.wasm_dep_analyzer.specs.Steps.{section}
use Rattle.wasm_dep_analyzer.proofs.SectionLemmas.{section_stands, StandIn-push, shortest_push, sound_where_found, has_fault, has_fault_in, empty_is, not_empty}
use Rattle.wasm_dep_analyzer.proofs.sections.find.Goals as goal

pub pieces-init : goal.pieces-init
unfolding first
pieces-init c = (
  [],
  record { stand = refl; shortest = λ n h. absurd (omega arith) },
  record { imports = refl; exports = refl; types = refl; functions = refl; globals = refl },
)

pub pieces-smaller : goal.pieces-smaller
pieces-smaller c =
    let stands = section_stands c.args.total c.pieces.rest.now (section c.in_ok-piece.piece) c.in_ok-piece.after.now
    c.in_ok-piece.ensures in
    stands.shorter

pub pieces-preserved : goal.pieces-preserved
pieces-preserved c =
    let inv = c.pieces.invariant in
    let s = section c.in_ok-piece.piece in (
      inv.0 ++ s ∷ [],
      record {
        stand = StandIn-push c.args.total inv.0 c.args.body.now c.pieces.rest.now s c.in_ok-piece.after.now inv.1.stand
            c.in_ok-piece.ensures;
        shortest = shortest_push (have_all c.args.skip_types) inv.0 s inv.1.shortest
            (sym (c.has_all.ensures inv.0 inv.2) ∙ c.if-has_all.false);
      },
      c.in_ok-found.ensures inv.0 inv.2,
    )

pub returns-then-is_empty : goal.returns-then-is_empty
returns-then-is_empty c =
    let inv = c.pieces.invariant in (
      inv.0,
      c.pieces.rest.now,
      (
        inv.1,
        sound_where_found c.pieces.found inv.0 inv.2,
        inr (empty_is c.pieces.rest.now c.is_empty.result c.is_empty.ensures c.if-is_empty.true),
      ),
      inv.2,
    )

pub returns-then-has_all : goal.returns-then-has_all
returns-then-has_all c =
    let inv = c.pieces.invariant in (
      inv.0,
      c.pieces.rest.now,
      (
        inv.1,
        sound_where_found c.pieces.found inv.0 inv.2,
        inl (sym (c.has_all.ensures inv.0 inv.2) ∙ c.if-has_all.true),
      ),
      inv.2,
    )

pub returns-in_err-piece : goal.returns-in_err-piece
returns-in_err-piece c =
    let p = err_from_is_err_and c.from_residual.result c.from_residual.ensures.1 in
    let inv = c.pieces.invariant in
    rw (p.1, p.2) (has_fault c.args.skip_types c.args.total c.args.body.now c.in_err-piece.field-0.0 inv.0
    c.pieces.rest.now
    (record {
      looked = inv.1;
      sound = sound_where_found c.pieces.found inv.0 inv.2;
      wanting = sym (c.has_all.ensures inv.0 inv.2) ∙ c.if-has_all.false;
      more = not_empty c.pieces.rest.now c.is_empty.result c.is_empty.ensures c.if-is_empty.false;
      fault = inl c.in_err-piece.ensures;
    }))

pub returns-in_err-found : goal.returns-in_err-found
returns-in_err-found c =
    let p = err_from_is_err_and c.from_residual-in_err-found.result c.from_residual-in_err-found.ensures.1 in
    let inv = c.pieces.invariant in
    rw (p.1, p.2) (has_fault_in c.args.skip_types c.args.total c.args.body.now c.in_err-found.field-0.0 inv.0
    c.pieces.rest.now
    (section c.in_ok-piece.piece) c.in_ok-piece.after.now inv.1 (sound_where_found c.pieces.found inv.0 inv.2)
    (sym (c.has_all.ensures inv.0 inv.2) ∙ c.if-has_all.false)
    (not_empty c.pieces.rest.now c.is_empty.result c.is_empty.ensures c.if-is_empty.false) c.in_ok-piece.ensures
    (c.in_err-found.ensures inv.0 inv.2))

-- What a look adds to what is read.
use Rattle.std.proofs.Common.{◌<◌, ◌+◌, ◌++◌, ◌∷◌, [], refl, sym, ap, ◌∙◌}
use Rattle.es_lexer.specs.declared.look.Look.TheVariants as look
use Rattle.es_lexer.specs.Brackets.{role_of}
use Rattle.es_lexer.specs.Short.{short_kind, short_role}
use Rattle.es_lexer.proofs.ShortLemmas.{role_is}
use Rattle.es_lexer.specs.Goal.{blank_state, line_state, token_state}
use Rattle.es_lexer.proofs.ScanLemmas.{SoFar, After, TokenAfter, advance_at, so_far_first, less_left, so_far_as, fault_as, blank_passed, line_passed, behind_piece, settled_token, within_bytes, token_within, token_passed}
use Rattle.es_lexer.proofs.scan.scan.Goals as goal

pub pieces-init : goal.pieces-init
pieces-init c = record {
  same = c.as_bytes-bytes.ensures.value;
  so_far = so_far_first c.args.text.now _ _ _ _ c.first_state-state.ensures c.new-brackets.ensures
      c.in_ok-tokens.ensures
      c.new-comments.ensures;
}

-- ---- words and punctuators that their first bytes tell
pub behind_blanks-at-requires : goal.behind_blanks-at-requires
behind_blanks-at-requires c =
    token_within c.args.text.now c.as_bytes-bytes.result.now c.pieces.at c.pieces.state c.pieces.brackets
    c.pieces.tokens c.pieces.comments _ _ c.in-Some.word.kind c.in-Some.word.end c.utf8.text c.pieces.invariant.same
    c.pieces.invariant.so_far c.innermost.ensures c.goal_in-goal.ensures c.in-Some.ensures.found

pub pieces-smaller-in-Some : goal.pieces-smaller-in-Some
pieces-smaller-in-Some c =
    let on : (c.pieces.at < c.behind_blanks-at.result) × SoFar c.args.text.now c.behind_blanks-at.result
    c.in_ok-state.state c.push_word.new.brackets c.push_word.new.tokens c.pieces.comments =
    token_passed c.args.text.now c.as_bytes-bytes.result.now c.pieces.at c.pieces.state c.pieces.brackets
    c.pieces.tokens c.pieces.comments _ _ c.in-Some.word.kind (role_of c.in-Some.word.kind) c.in-Some.word.end
    c.behind_blanks-at.result c.push_word.new.brackets c.push_word.new.tokens c.in_ok-state.state c.utf8.text
    c.pieces.invariant.same c.pieces.invariant.so_far c.innermost.ensures c.goal_in-goal.ensures
    c.in-Some.ensures.found refl c.in_ok-state.ensures.state c.in_ok-state.ensures.tokens
    c.in_ok-state.ensures.brackets c.behind_blanks-at.ensures in
    less_left c.args.text.now c.as_bytes-bytes.result.now c.pieces.at c.behind_blanks-at.result
    c.pieces.invariant.same on.0 on.1.within

pub pieces-preserved-in-Some : goal.pieces-preserved-in-Some
pieces-preserved-in-Some c =
    let on : (c.pieces.at < c.behind_blanks-at.result) × SoFar c.args.text.now c.behind_blanks-at.result
    c.in_ok-state.state c.push_word.new.brackets c.push_word.new.tokens c.pieces.comments =
    token_passed c.args.text.now c.as_bytes-bytes.result.now c.pieces.at c.pieces.state c.pieces.brackets
    c.pieces.tokens c.pieces.comments _ _ c.in-Some.word.kind (role_of c.in-Some.word.kind) c.in-Some.word.end
    c.behind_blanks-at.result c.push_word.new.brackets c.push_word.new.tokens c.in_ok-state.state c.utf8.text
    c.pieces.invariant.same c.pieces.invariant.so_far c.innermost.ensures c.goal_in-goal.ensures
    c.in-Some.ensures.found refl c.in_ok-state.ensures.state c.in_ok-state.ensures.tokens
    c.in_ok-state.ensures.brackets c.behind_blanks-at.ensures in
    record {
      same = c.pieces.invariant.same;
      so_far = on.1;
    }

pub pieces-smaller-in-Some-short_sign : goal.pieces-smaller-in-Some-short_sign
pieces-smaller-in-Some-short_sign c =
    let on : (c.pieces.at < c.behind_blanks-at-in-Some-short_sign.result)
    × SoFar c.args.text.now c.behind_blanks-at-in-Some-short_sign.result
    c.in_ok-state-2.state c.push_short.new.brackets c.push_short.new.tokens c.pieces.comments =
    token_passed c.args.text.now c.as_bytes-bytes.result.now c.pieces.at c.pieces.state c.pieces.brackets
    c.pieces.tokens c.pieces.comments _ _ (short_kind c.in-Some-short_sign.short)
    (short_role c.in-Some-short_sign.short) (c.pieces.at + 1)
    c.behind_blanks-at-in-Some-short_sign.result c.push_short.new.brackets c.push_short.new.tokens
    c.in_ok-state-2.state c.utf8.text
    c.pieces.invariant.same c.pieces.invariant.so_far c.innermost.ensures c.goal_in-goal.ensures
    (c.in-Some-short_sign.ensures.found c.pieces.at) (sym (role_is c.in-Some-short_sign.short))
    c.in_ok-state-2.ensures.state c.in_ok-state-2.ensures.tokens
    c.in_ok-state-2.ensures.brackets c.behind_blanks-at-in-Some-short_sign.ensures in
    less_left c.args.text.now c.as_bytes-bytes.result.now c.pieces.at c.behind_blanks-at-in-Some-short_sign.result
    c.pieces.invariant.same on.0 on.1.within

pub pieces-preserved-in-Some-short_sign : goal.pieces-preserved-in-Some-short_sign
pieces-preserved-in-Some-short_sign c =
    let on : (c.pieces.at < c.behind_blanks-at-in-Some-short_sign.result)
    × SoFar c.args.text.now c.behind_blanks-at-in-Some-short_sign.result
    c.in_ok-state-2.state c.push_short.new.brackets c.push_short.new.tokens c.pieces.comments =
    token_passed c.args.text.now c.as_bytes-bytes.result.now c.pieces.at c.pieces.state c.pieces.brackets
    c.pieces.tokens c.pieces.comments _ _ (short_kind c.in-Some-short_sign.short)
    (short_role c.in-Some-short_sign.short) (c.pieces.at + 1)
    c.behind_blanks-at-in-Some-short_sign.result c.push_short.new.brackets c.push_short.new.tokens
    c.in_ok-state-2.state c.utf8.text
    c.pieces.invariant.same c.pieces.invariant.so_far c.innermost.ensures c.goal_in-goal.ensures
    (c.in-Some-short_sign.ensures.found c.pieces.at) (sym (role_is c.in-Some-short_sign.short))
    c.in_ok-state-2.ensures.state c.in_ok-state-2.ensures.tokens
    c.in_ok-state-2.ensures.brackets c.behind_blanks-at-in-Some-short_sign.ensures in
    record {
      same = c.pieces.invariant.same;
      so_far = on.1;
    }

-- ---- the end, and a fault
pub returns-in-End-clause-read : goal.returns-in-End-clause-read
returns-in-End-clause-read c =
    advance_at c.args.text.now c.as_bytes-bytes.result.now c.pieces.at c.pieces.state c.pieces.brackets c.pieces.tokens
    c.pieces.comments _ _ _
    c.utf8.text c.pieces.invariant.same c.pieces.invariant.so_far c.innermost.ensures c.goal_in-goal.ensures
    c.in-End.ensures

pub returns-in-Fault-clause-stopped : goal.returns-in-Fault-clause-stopped
returns-in-Fault-clause-stopped c e w = fault_as c.args.text.now c.in-Fault.kind c.in-Fault.at
    (advance_at c.args.text.now c.as_bytes-bytes.result.now c.pieces.at c.pieces.state c.pieces.brackets
    c.pieces.tokens c.pieces.comments _ _ _
    c.utf8.text c.pieces.invariant.same c.pieces.invariant.so_far c.innermost.ensures c.goal_in-goal.ensures
    c.in-Fault.ensures) e w

pub behind_blanks-at-requires-in-Blank : goal.behind_blanks-at-requires-in-Blank
behind_blanks-at-requires-in-Blank c =
    let after : After c.args.text.now c.pieces.at c.pieces.state c.pieces.brackets c.pieces.tokens c.pieces.comments
    (look.Blank c.in-Blank.end) =
    advance_at c.args.text.now c.as_bytes-bytes.result.now c.pieces.at c.pieces.state c.pieces.brackets c.pieces.tokens
    c.pieces.comments _ _ _
    c.utf8.text c.pieces.invariant.same c.pieces.invariant.so_far c.innermost.ensures c.goal_in-goal.ensures
    c.in-Blank.ensures in
    within_bytes c.args.text.now c.as_bytes-bytes.result.now c.in-Blank.end c.pieces.invariant.same after.1.within

pub pieces-smaller-in-Blank : goal.pieces-smaller-in-Blank
pieces-smaller-in-Blank c =
    let on : (c.pieces.at < c.behind_blanks-at-in-Blank.result)
    × SoFar c.args.text.now c.behind_blanks-at-in-Blank.result
    (blank_state c.pieces.state) c.pieces.brackets c.pieces.tokens c.pieces.comments =
    blank_passed c.args.text.now c.as_bytes-bytes.result.now c.pieces.at c.pieces.state
    c.pieces.brackets c.pieces.tokens c.pieces.comments _ _ c.in-Blank.end c.behind_blanks-at-in-Blank.result
    c.utf8.text
    c.pieces.invariant.same c.pieces.invariant.so_far c.innermost.ensures c.goal_in-goal.ensures c.in-Blank.ensures
    c.behind_blanks-at-in-Blank.ensures in
    less_left c.args.text.now c.as_bytes-bytes.result.now c.pieces.at c.behind_blanks-at-in-Blank.result
    c.pieces.invariant.same on.0 on.1.within

pub pieces-preserved-in-Blank : goal.pieces-preserved-in-Blank
pieces-preserved-in-Blank c = record {
  same = c.pieces.invariant.same;
  so_far = so_far_as _ _ _ _ _ _ _ _
      (blank_passed c.args.text.now c.as_bytes-bytes.result.now c.pieces.at c.pieces.state
      c.pieces.brackets c.pieces.tokens c.pieces.comments _ _ c.in-Blank.end c.behind_blanks-at-in-Blank.result
      c.utf8.text
      c.pieces.invariant.same c.pieces.invariant.so_far c.innermost.ensures c.goal_in-goal.ensures c.in-Blank.ensures
      c.behind_blanks-at-in-Blank.ensures).1
      c.blank_state-state.ensures refl;
}

pub behind_blanks-at-requires-in-LineEnd : goal.behind_blanks-at-requires-in-LineEnd
behind_blanks-at-requires-in-LineEnd c =
    let after : After c.args.text.now c.pieces.at c.pieces.state c.pieces.brackets c.pieces.tokens c.pieces.comments
    (look.LineEnd c.in-LineEnd.end) =
    advance_at c.args.text.now c.as_bytes-bytes.result.now c.pieces.at c.pieces.state c.pieces.brackets c.pieces.tokens
    c.pieces.comments _ _ _
    c.utf8.text c.pieces.invariant.same c.pieces.invariant.so_far c.innermost.ensures c.goal_in-goal.ensures
    c.in-LineEnd.ensures in
    within_bytes c.args.text.now c.as_bytes-bytes.result.now c.in-LineEnd.end c.pieces.invariant.same after.1.within

pub pieces-smaller-in-LineEnd : goal.pieces-smaller-in-LineEnd
pieces-smaller-in-LineEnd c =
    let on : (c.pieces.at < c.behind_blanks-at-in-LineEnd.result)
    × SoFar c.args.text.now c.behind_blanks-at-in-LineEnd.result
    (line_state c.pieces.state) c.pieces.brackets c.pieces.tokens c.pieces.comments =
    line_passed c.args.text.now c.as_bytes-bytes.result.now c.pieces.at c.pieces.state
    c.pieces.brackets c.pieces.tokens c.pieces.comments _ _ c.in-LineEnd.end c.behind_blanks-at-in-LineEnd.result
    c.utf8.text
    c.pieces.invariant.same c.pieces.invariant.so_far c.innermost.ensures c.goal_in-goal.ensures c.in-LineEnd.ensures
    c.behind_blanks-at-in-LineEnd.ensures in
    less_left c.args.text.now c.as_bytes-bytes.result.now c.pieces.at c.behind_blanks-at-in-LineEnd.result
    c.pieces.invariant.same on.0 on.1.within

pub pieces-preserved-in-LineEnd : goal.pieces-preserved-in-LineEnd
pieces-preserved-in-LineEnd c = record {
  same = c.pieces.invariant.same;
  so_far = so_far_as _ _ _ _ _ _ _ _ (line_passed c.args.text.now c.as_bytes-bytes.result.now c.pieces.at c.pieces.state
      c.pieces.brackets c.pieces.tokens c.pieces.comments _ _ c.in-LineEnd.end c.behind_blanks-at-in-LineEnd.result
      c.utf8.text
      c.pieces.invariant.same c.pieces.invariant.so_far c.innermost.ensures c.goal_in-goal.ensures c.in-LineEnd.ensures
      c.behind_blanks-at-in-LineEnd.ensures).1
      c.line_state-state.ensures refl;
}

-- ---- comments
pub comment_from-requires : goal.comment_from-requires
comment_from-requires c =
    (advance_at c.args.text.now c.as_bytes-bytes.result.now c.pieces.at c.pieces.state c.pieces.brackets
    c.pieces.tokens c.pieces.comments _ _ _
    c.utf8.text c.pieces.invariant.same c.pieces.invariant.so_far c.innermost.ensures c.goal_in-goal.ensures
    c.in-Comment.ensures).has_text

pub pieces-smaller-in-Comment : goal.pieces-smaller-in-Comment
pieces-smaller-in-Comment c =
    let after : After c.args.text.now c.pieces.at c.pieces.state c.pieces.brackets c.pieces.tokens c.pieces.comments
    (look.Comment c.in-Comment.kind c.in-Comment.end c.in-Comment.line_end) =
    advance_at c.args.text.now c.as_bytes-bytes.result.now c.pieces.at c.pieces.state c.pieces.brackets c.pieces.tokens
    c.pieces.comments _ _ _
    c.utf8.text c.pieces.invariant.same c.pieces.invariant.so_far c.innermost.ensures c.goal_in-goal.ensures
    c.in-Comment.ensures in
    less_left c.args.text.now c.as_bytes-bytes.result.now c.pieces.at c.in-Comment.end c.pieces.invariant.same
    after.forward after.goes.within

pub pieces-preserved-in-Comment : goal.pieces-preserved-in-Comment
pieces-preserved-in-Comment c = record {
  same = c.pieces.invariant.same;
  so_far = so_far_as _ _ _ _ _ _ _ _
      (advance_at c.args.text.now c.as_bytes-bytes.result.now c.pieces.at c.pieces.state c.pieces.brackets
      c.pieces.tokens c.pieces.comments _ _ _
      c.utf8.text c.pieces.invariant.same c.pieces.invariant.so_far c.innermost.ensures c.goal_in-goal.ensures
      c.in-Comment.ensures).goes
      c.comment_state-state.ensures
      (c.in_ok-push-in-Comment.ensures.ok
      ∙ ap (λ d. c.pieces.comments ++ d ∷ []) c.in_ok-comment_from-in-Comment.ensures);
}

-- ---- tokens
pub behind_blanks-at-requires-in-Token : goal.behind_blanks-at-requires-in-Token
behind_blanks-at-requires-in-Token c =
    let after : TokenAfter c.args.text.now c.pieces.at c.pieces.state c.pieces.brackets c.pieces.tokens
    c.pieces.comments c.in-Token.kind c.in-Token.end =
    advance_at c.args.text.now c.as_bytes-bytes.result.now c.pieces.at c.pieces.state c.pieces.brackets c.pieces.tokens
    c.pieces.comments _ _ _
    c.utf8.text c.pieces.invariant.same c.pieces.invariant.so_far c.innermost.ensures c.goal_in-goal.ensures
    c.in-Token.ensures in
    within_bytes c.args.text.now c.as_bytes-bytes.result.now c.in-Token.end c.pieces.invariant.same after.within

pub pieces-smaller : goal.pieces-smaller
pieces-smaller c =
    let after : TokenAfter c.args.text.now c.pieces.at c.pieces.state c.pieces.brackets c.pieces.tokens
    c.pieces.comments c.in-Token.kind c.in-Token.end =
    advance_at c.args.text.now c.as_bytes-bytes.result.now c.pieces.at c.pieces.state c.pieces.brackets c.pieces.tokens
    c.pieces.comments _ _ _
    c.utf8.text c.pieces.invariant.same c.pieces.invariant.so_far c.innermost.ensures c.goal_in-goal.ensures
    c.in-Token.ensures in
    let on : (c.pieces.at < c.behind_blanks-at-in-Token.result) × SoFar c.args.text.now
    c.behind_blanks-at-in-Token.result (token_state c.pieces.state c.in-Token.kind c.in_ok-closed-in-Token.closed)
    c.push_token.new.brackets c.push_token.new.tokens c.pieces.comments =
    behind_piece c.args.text.now c.as_bytes-bytes.result.now c.pieces.at c.in-Token.end
    c.behind_blanks-at-in-Token.result (token_state c.pieces.state c.in-Token.kind c.in_ok-closed-in-Token.closed) _ _
    c.pieces.comments c.utf8.text c.pieces.invariant.same
    (settled_token c.pieces.state c.in-Token.kind c.in_ok-closed-in-Token.closed)
    after.forward
    (after.goes _ _ _ c.in_ok-closed-in-Token.ensures.closed c.in_ok-closed-in-Token.ensures.tokens
    c.in_ok-closed-in-Token.ensures.brackets)
    c.behind_blanks-at-in-Token.ensures in
    less_left c.args.text.now c.as_bytes-bytes.result.now c.pieces.at c.behind_blanks-at-in-Token.result
    c.pieces.invariant.same on.0 on.1.within

pub pieces-preserved : goal.pieces-preserved
pieces-preserved c =
    let after : TokenAfter c.args.text.now c.pieces.at c.pieces.state c.pieces.brackets c.pieces.tokens
    c.pieces.comments c.in-Token.kind c.in-Token.end =
    advance_at c.args.text.now c.as_bytes-bytes.result.now c.pieces.at c.pieces.state c.pieces.brackets c.pieces.tokens
    c.pieces.comments _ _ _
    c.utf8.text c.pieces.invariant.same c.pieces.invariant.so_far c.innermost.ensures c.goal_in-goal.ensures
    c.in-Token.ensures in
    let on : (c.pieces.at < c.behind_blanks-at-in-Token.result) × SoFar c.args.text.now
    c.behind_blanks-at-in-Token.result (token_state c.pieces.state c.in-Token.kind c.in_ok-closed-in-Token.closed)
    c.push_token.new.brackets c.push_token.new.tokens c.pieces.comments =
    behind_piece c.args.text.now c.as_bytes-bytes.result.now c.pieces.at c.in-Token.end
    c.behind_blanks-at-in-Token.result (token_state c.pieces.state c.in-Token.kind c.in_ok-closed-in-Token.closed) _ _
    c.pieces.comments c.utf8.text c.pieces.invariant.same
    (settled_token c.pieces.state c.in-Token.kind c.in_ok-closed-in-Token.closed)
    after.forward
    (after.goes _ _ _ c.in_ok-closed-in-Token.ensures.closed c.in_ok-closed-in-Token.ensures.tokens
    c.in_ok-closed-in-Token.ensures.brackets)
    c.behind_blanks-at-in-Token.ensures in
    record {
      same = c.pieces.invariant.same;
      so_far = so_far_as _ _ _ _ _ _ _ _ on.1 c.token_state-state.ensures refl;
    }

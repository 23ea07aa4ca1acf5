use Rattle.dts_members.proofs.MemberLemmas.{empty_made, static_made, index_made, generator_labelled, method_labelled, async_labelled, accessor_labelled, field_labelled, accessor_field_labelled, typed_generator_labelled, typed_method_labelled, typed_async_labelled, typed_accessor_labelled, typed_field_labelled, typed_accessor_field_labelled}
use Rattle.dts_members.proofs.members.labelled.Goals as goal

-- by its alternative
pub returns-in-EmptyMember-clause-written : goal.returns-in-EmptyMember-clause-written
returns-in-EmptyMember-clause-written c = λ e is by knows known.
    let x = c.args.env.now.text.now in
    let ts = c.args.env.now.tokens.now in
    empty_made by x ts c.args.out.now c.args.label _ _ c.in-EmptyMember.is

pub returns-in-StaticBlock-clause-written : goal.returns-in-StaticBlock-clause-written
returns-in-StaticBlock-clause-written c = λ e is by knows known.
    let x = c.args.env.now.text.now in
    let ts = c.args.env.now.tokens.now in
    static_made by x ts c.args.out.now c.args.label _ _ c.in-StaticBlock.is

pub returns-in-IndexMember-clause-written : goal.returns-in-IndexMember-clause-written
returns-in-IndexMember-clause-written c = λ e is by knows known.
    let x = c.args.env.now.text.now in
    let ts = c.args.env.now.tokens.now in
    index_made by x ts c.args.out.now c.keep_there.new.self c.args.it.now c.args.label is c.in-IndexMember.is
    (c.keep_there.ensures.written e x ts) c.keep_there.ensures.state

pub returns-in-GeneratorMember-clause-written : goal.returns-in-GeneratorMember-clause-written
returns-in-GeneratorMember-clause-written c = λ e is by knows known.
    let x = c.args.env.now.text.now in
    let ts = c.args.env.now.tokens.now in
    rw c.in-GeneratorMember.is
    (generator_labelled by x ts _ _ _ _ _ (c.plain_method.ensures.written e by knows known))

pub returns-in-MethodMember-clause-written : goal.returns-in-MethodMember-clause-written
returns-in-MethodMember-clause-written c = λ e is by knows known.
    let x = c.args.env.now.text.now in
    let ts = c.args.env.now.tokens.now in
    rw c.in-MethodMember.is
    (method_labelled by x ts _ _ _ _ _ (c.plain_method-in-MethodMember.ensures.written e by knows known))

pub returns-in-AsyncMember-clause-written : goal.returns-in-AsyncMember-clause-written
returns-in-AsyncMember-clause-written c = λ e is by knows known.
    let x = c.args.env.now.text.now in
    let ts = c.args.env.now.tokens.now in
    rw c.in-AsyncMember.is
    (async_labelled by x ts _ _ _ _ _ (c.async_method.ensures.written e by knows known))

pub returns-in-AccessorMember-clause-written : goal.returns-in-AccessorMember-clause-written
returns-in-AccessorMember-clause-written c = λ e is by knows known.
    let x = c.args.env.now.text.now in
    let ts = c.args.env.now.tokens.now in
    rw c.in-AccessorMember.is
    (accessor_labelled by x ts _ _ _ _ _ (c.accessor_method.ensures.written e by knows known))

pub returns-in-FieldMember-clause-written : goal.returns-in-FieldMember-clause-written
returns-in-FieldMember-clause-written c = λ e is by knows known.
    let x = c.args.env.now.text.now in
    let ts = c.args.env.now.tokens.now in
    rw c.in-FieldMember.is
    (field_labelled by x ts _ _ _ _ _ (c.plain_field.ensures.written e by knows))

pub returns-in-AccessorField-clause-written : goal.returns-in-AccessorField-clause-written
returns-in-AccessorField-clause-written c = λ e is by knows known.
    let x = c.args.env.now.text.now in
    let ts = c.args.env.now.tokens.now in
    rw c.in-AccessorField.is
    (accessor_field_labelled by x ts _ _ _ _ _ (c.plain_field-in-AccessorField.ensures.written e by knows))

pub returns-in-TypedGeneratorMember-clause-written : goal.returns-in-TypedGeneratorMember-clause-written
returns-in-TypedGeneratorMember-clause-written c = λ e is by knows known.
    let x = c.args.env.now.text.now in
    let ts = c.args.env.now.tokens.now in
    rw c.in-TypedGeneratorMember.is
    (typed_generator_labelled by x ts _ _ _ _ _ (c.typed_method.ensures.written e by knows known))

pub returns-in-TypedMethodMember-clause-written : goal.returns-in-TypedMethodMember-clause-written
returns-in-TypedMethodMember-clause-written c = λ e is by knows known.
    let x = c.args.env.now.text.now in
    let ts = c.args.env.now.tokens.now in
    rw c.in-TypedMethodMember.is
    (typed_method_labelled by x ts _ _ _ _ _ (c.typed_method-in-TypedMethodMember.ensures.written e by knows known))

pub returns-in-TypedAsyncMember-clause-written : goal.returns-in-TypedAsyncMember-clause-written
returns-in-TypedAsyncMember-clause-written c = λ e is by knows known.
    let x = c.args.env.now.text.now in
    let ts = c.args.env.now.tokens.now in
    rw c.in-TypedAsyncMember.is
    (typed_async_labelled by x ts _ _ _ _ _ (c.typed_async_method.ensures.written e by knows known))

pub returns-in-TypedAccessorMember-clause-written : goal.returns-in-TypedAccessorMember-clause-written
returns-in-TypedAccessorMember-clause-written c = λ e is by knows known.
    let x = c.args.env.now.text.now in
    let ts = c.args.env.now.tokens.now in
    rw c.in-TypedAccessorMember.is
    (typed_accessor_labelled by x ts _ _ _ _ _ (c.typed_accessor_method.ensures.written e by knows known))

pub returns-in-TypedFieldMember-clause-written : goal.returns-in-TypedFieldMember-clause-written
returns-in-TypedFieldMember-clause-written c = λ e is by knows known.
    let x = c.args.env.now.text.now in
    let ts = c.args.env.now.tokens.now in
    rw c.in-TypedFieldMember.is
    (typed_field_labelled by x ts _ _ _ _ _ (c.typed_field.ensures.written e by knows))

pub returns-in-TypedAccessorField-clause-written : goal.returns-in-TypedAccessorField-clause-written
returns-in-TypedAccessorField-clause-written c = λ e is by knows known.
    let x = c.args.env.now.text.now in
    let ts = c.args.env.now.tokens.now in
    rw c.in-TypedAccessorField.is
    (typed_accessor_field_labelled by x ts _ _ _ _ _ (c.typed_field-in-TypedAccessorField.ensures.written e by knows))

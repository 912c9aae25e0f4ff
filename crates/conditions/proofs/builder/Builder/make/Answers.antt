use Rattle.std.proofs.Common.{refl, sym, ap, ◌∙◌, arith}
use Rattle.search.specs.declared.Searched.{Searched}
use Rattle.search.proofs.LowestLaws.{found_at, found_nowhere}
use Rattle.operations.proofs.MakeLaws.{make-full, make_same, make_old, make-none}
use Rattle.conditions.proofs.BuilderLaws.{did_built, make_made, make_sound, made_new}
use Rattle.conditions.proofs.builder.Builder.make.Goals as goal

pub returns-then-self : goal.returns-then-self
returns-then-self c =
    let p = c.requires in
    did_built (make_made p.0 p.1 p.2 p.3 p.4 c.args.self.now.sound) (sym (make-full _ _ _ _ _ c.if-self.true)) refl refl refl

pub returns-then-lo-hi : goal.returns-then-lo-hi
returns-then-lo-hi c =
    let p = c.requires in
    did_built (make_made p.0 p.1 p.2 p.3 p.4 c.args.self.now.sound) (sym (make_same _ _ _ _ _ c.if-self.false c.if-lo-hi.true)) refl refl refl

pub returns-in-Some : goal.returns-in-Some
returns-in-Some c =
    let p = c.requires in
    let S = c.args.self.now.sound in
    let h = found_at c.args.lo c.args.hi S.standard p.0 (sym (ap (λ (r : Searched). r.found) c.search-found.ensures) ∙ c.in-Some.is) in
    did_built (make_made p.0 p.1 p.2 p.3 p.4 S) (sym (make_old _ _ _ _ _ c.if-self.false c.if-lo-hi.false h.0 h.1)) refl refl refl

pub invariant_of-self-in-None : goal.invariant_of-self-in-None
invariant_of-self-in-None c =
    let p = c.requires in
    let S = c.args.self.now.sound in
    let h = found_nowhere c.args.lo c.args.hi S.standard p.0 (sym (ap (λ (r : Searched). r.found) c.search-found.ensures) ∙ c.in-None.is) in
    record { sound = make_sound p.0 p.1 p.2 p.3 p.4 S (made_new _ _ _ _ _ c.if-self.false c.if-lo-hi.false h (omega arith) c.store_node.ensures) }

pub returns-in-None : goal.returns-in-None
returns-in-None c =
    let p = c.requires in
    let S = c.args.self.now.sound in
    let h = found_nowhere c.args.lo c.args.hi S.standard p.0 (sym (ap (λ (r : Searched). r.found) c.search-found.ensures) ∙ c.in-None.is) in
    did_built (make_made p.0 p.1 p.2 p.3 p.4 S) (made_new _ _ _ _ _ c.if-self.false c.if-lo-hi.false h (omega arith) c.store_node.ensures) c.store_node.auto.words refl refl

pub returns-in-None-2 : goal.returns-in-None-2
returns-in-None-2 c =
    let p = c.requires in
    let S = c.args.self.now.sound in
    let h = found_nowhere c.args.lo c.args.hi S.standard p.0 (sym (ap (λ (r : Searched). r.found) c.search-found.ensures) ∙ c.in-None.is) in
    did_built (make_made p.0 p.1 p.2 p.3 p.4 S) (sym (make-none _ _ _ _ _ c.if-self.false c.if-lo-hi.false refl h (omega arith))) refl refl refl

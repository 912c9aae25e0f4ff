use Rattle.std.proofs.Common.{refl, sym, ◌∙◌}
use Rattle.operations.proofs.MakeLaws.{make-full, make_has}
use Rattle.conditions.proofs.BuilderLaws.{did_built, make_made}
use Rattle.conditions.proofs.builder.Builder.make_near.Goals as goal

pub returns-then-self : goal.returns-then-self
returns-then-self c =
    let p = c.requires in
    did_built (make_made p.0 p.1 p.2 p.3 p.4 c.args.self.now.sound) (sym (make-full _ _ _ _ _ c.if-self.true)) refl refl refl

pub returns-then-has_words : goal.returns-then-has_words
returns-then-has_words c =
    let p = c.requires in
    let S = c.args.self.now.sound in
    did_built (make_made p.0 p.1 p.2 p.3 p.4 S) (sym (make_has _ _ _ S.standard p.0 c.if-self.false _ p.5 (sym c.has_words.ensures ∙ c.if-has_words.true))) refl refl refl

pub returns-then-has_words-2 : goal.returns-then-has_words-2
returns-then-has_words-2 c =
    let p = c.requires in
    let S = c.args.self.now.sound in
    did_built (make_made p.0 p.1 p.2 p.3 p.4 S) (sym (make_has _ _ _ S.standard p.0 c.if-self.false _ p.6 (sym c.has_words-2.ensures ∙ c.if-has_words-2.true))) refl refl refl

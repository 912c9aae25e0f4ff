use Rattle.cases.specs.Case.{call_of}
use Rattle.case_access.proofs.UnknownLaws.{unknown_not}
use Rattle.format.specs.Fields.{fields_of}
use Rattle.reading.specs.Layout.{lead_of, ends_of, size_of}
use mathlib.Core.Path.{ap, ◌∙◌}
use Rattle.case_access.proofs.do_access.Goals as goal

pub do_write-requires : goal.do_write-requires
do_write-requires c = (c.requires.0, c.requires.3 ∙ ap (λ k. size_of k c.args.c.memory.fields.sizes.n c.args.c.memory.fields.sizes.w) c.in-Write.is)

pub do_read-requires : goal.do_read-requires
do_read-requires c = (c.requires.0, c.requires.1, c.requires.3 ∙ ap (λ k. size_of k c.args.c.memory.fields.sizes.n c.args.c.memory.fields.sizes.w) c.in-Read.is)

pub do_assert-requires : goal.do_assert-requires
unfolding ends_of fields_of
do_assert-requires c = (c.requires.0, c.requires.3 ∙ ap (λ k. size_of k c.args.c.memory.fields.sizes.n c.args.c.memory.fields.sizes.w) c.in-Assert.is)

pub do_check-requires : goal.do_check-requires
unfolding ends_of fields_of
do_check-requires c = (c.requires.0, c.requires.3 ∙ ap (λ k. size_of k c.args.c.memory.fields.sizes.n c.args.c.memory.fields.sizes.w) c.in-Check.is)

pub returns-in-Write-clause-step : goal.returns-in-Write-clause-step
unfolding call_of lead_of fields_of
returns-in-Write-clause-step c = rw c.in-Write.is (c.do_write.ensures.step c.args.ports.now)

pub returns-in-Read-clause-step : goal.returns-in-Read-clause-step
returns-in-Read-clause-step c = rw c.in-Read.is c.do_read.ensures.step

pub returns-in-Assert-clause-step : goal.returns-in-Assert-clause-step
unfolding call_of lead_of fields_of
returns-in-Assert-clause-step c = rw c.in-Assert.is (c.do_assert.ensures.step c.args.ports.now)

pub returns-in-Check-clause-step : goal.returns-in-Check-clause-step
unfolding call_of lead_of fields_of
returns-in-Check-clause-step c = rw c.in-Check.is (c.do_check.ensures.step c.args.ports.now)

pub returns-in-Unknown-clause-step : goal.returns-in-Unknown-clause-step
returns-in-Unknown-clause-step c = absurd (unknown_not c.in-Unknown.is c.requires.2)

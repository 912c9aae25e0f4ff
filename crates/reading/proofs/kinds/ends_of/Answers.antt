use Rattle.std.proofs.Common.{ap, ◌∙◌, arith}
use Rattle.format.specs.Fields.{fields_of}
use Rattle.reading.specs.declared.Ends.{Ends}
use Rattle.reading.specs.Layout.{ends_of}
use Rattle.reading.proofs.LayoutLaws.{ends_are, ends_one}
use Rattle.reading.proofs.kinds.ends_of.Goals as goal

pub returns-in-Write-clause-value : goal.returns-in-Write-clause-value
unfolding ends_of fields_of
returns-in-Write-clause-value c = let e = c.ends.ensures in rw c.in-Write.is (ends_are _ e.0 e.1 e.2)

pub returns-in-Write-clause-whole : goal.returns-in-Write-clause-whole
unfolding ends_of fields_of
returns-in-Write-clause-whole c = rw c.in-Write.is c.ends.ensures.2

pub returns-in-Read-clause-value : goal.returns-in-Read-clause-value
unfolding ends_of fields_of
returns-in-Read-clause-value c = let e = c.ends-in-Read.ensures in rw c.in-Read.is (ends_are _ e.0 e.1 (e.2 ∙ omega arith))

pub returns-in-Read-clause-whole : goal.returns-in-Read-clause-whole
unfolding ends_of fields_of
returns-in-Read-clause-whole c = rw c.in-Read.is (c.ends-in-Read.ensures.2 ∙ omega arith)

pub returns-in-Assert-clause-value : goal.returns-in-Assert-clause-value
unfolding ends_of fields_of
returns-in-Assert-clause-value c = ends_one _ _ c.in-Assert.is c.ends-in-Assert.ensures

pub returns-in-Assert-clause-whole : goal.returns-in-Assert-clause-whole
unfolding ends_of fields_of
returns-in-Assert-clause-whole c = ap (λ (x : Ends). x.word) (ends_one _ _ c.in-Assert.is c.ends-in-Assert.ensures)

pub returns-in-Unknown-clause-value : goal.returns-in-Unknown-clause-value
unfolding ends_of fields_of
returns-in-Unknown-clause-value c = rw c.in-Unknown.is

pub returns-in-Unknown-clause-whole : goal.returns-in-Unknown-clause-whole
unfolding ends_of fields_of
returns-in-Unknown-clause-whole c = rw c.in-Unknown.is

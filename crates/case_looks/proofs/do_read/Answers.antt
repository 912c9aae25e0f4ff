use Rattle.std.proofs.Common.{◌≡◌, refl, ap, ◌∙◌, length, Err, rules, arith}
use lib.ListN.{length-take, length-replicate}
use Rattle.text.specs.Writer.{out_of}
use Rattle.rows.proofs.CallLaws.{valid_few}
use Rattle.case_entries.proofs.WordLaws.{valid_ported, after-standard}
use Rattle.case_entries.proofs.StepLaws.{step_on, step-stop}
use Rattle.case_entries.proofs.CallLaws.{read_told, read_cut}
use Rattle.case_looks.proofs.ReadLaws.{read-answers, word_below}
use Rattle.case_looks.proofs.ZeroLaws.{zeros_of-pairs}
use Rattle.case_looks.proofs.do_read.Goals as goal

pub slice_bounds-word-end : goal.slice_bounds-word-end
slice_bounds-word-end c = let f = valid_few _ c.requires.0.valid in omega (arith, f.1, c.data_words.ensures)

pub slice_bounds-word-end-2 : goal.slice_bounds-word-end-2
slice_bounds-word-end-2 c = let f = valid_few _ c.requires.0.valid in simp length-take (omega (arith, f.1, c.data_words.ensures))

pub read_on-requires : goal.read_on-requires
read_on-requires c =
    let f = valid_few _ c.requires.0.valid in
    let L = read_cut _ _ c.args.ops.now c.ends_of-e.result c.ends_of-e.ensures.value c.requires.2 in
    (valid_ported c.args.c.memory c.args.words.now c.args.list.now c.args.ports.now c.requires.0.valid, c.requires.1, c.requires.0.sound, L.0, L.1, ap length (zeros_of-pairs c.data_words.ensures f.1) ∙ length-replicate _ 0)

pub returns-in_err-read_on-clause-step : goal.returns-in_err-read_on-clause-step
returns-in_err-read_on-clause-step c =
    let f = valid_few _ c.requires.0.valid in
    let q : c.from_residual.result ≡ Err c.in_err-read_on.field-0.0 = search rules in
    rw (read_told _ _ c.args.ops.now c.ends_of-e.result c.args.port c.ends_of-e.ensures.value) (step-stop _ c.args.c.at (out_of c.args.w.now) q (read-answers c.in_err-read_on.ensures _ (zeros_of-pairs c.data_words.ensures f.1)))

pub invariant_of-d : goal.invariant_of-d
invariant_of-d c = record { standard = after-standard _ (valid_ported c.args.c.memory c.args.words.now c.args.list.now c.args.ports.now c.requires.0.valid) c.in_ok-read_on.ensures.is.is }

pub put_read-requires : goal.put_read-requires
put_read-requires c = word_below _ _ _ _ (valid_ported c.args.c.memory c.args.words.now c.args.list.now c.args.ports.now c.requires.0.valid) c.in_ok-read_on.ensures.is.is

pub returns-clause-step : goal.returns-clause-step
returns-clause-step c =
    let f = valid_few _ c.requires.0.valid in
    rw (read_told _ _ c.args.ops.now c.ends_of-e.result c.args.port c.ends_of-e.ensures.value) (step_on _ (valid_ported c.args.c.memory c.args.words.now c.args.list.now c.args.ports.now c.requires.0.valid) (read-answers c.in_ok-read_on.ensures _ (zeros_of-pairs c.data_words.ensures f.1)) c.args.c.at (out_of c.args.w.now) refl c.put_read.new.w c.put_read.ensures.is c.printed.ensures)

use Rattle.std.proofs.Common.{◌≡◌, [], Err, rules}
use Rattle.casefile.proofs.RestLaws.{first-ready, whole-goes, whole-stops}
use Rattle.casefile.specs.Contract.{after_as}
use Rattle.casefile.proofs.accesses.whole.Goals as goal

pub returns-in_err-loaded : goal.returns-in_err-loaded
returns-in_err-loaded c =
    let m : c.map_err.result ≡ after_as 0 c.load_sections.result = search rules in
    let q : c.from_residual.result ≡ Err c.in_err-loaded.field-0.0 = search rules in
    ([], whole-stops c.args.file.now c.args.words.now c.args.list.now c.args.buf.now _ _ c.load_sections.ensures m c.in_err-loaded.was q _ _ _ _)

pub do_all-requires : goal.do_all-requires
do_all-requires c =
    let m : c.map_err.result ≡ after_as 0 c.load_sections.result = search rules in
    first-ready c.args.file.now c.args.words.now c.args.list.now c.load_sections.new.words _ m c.in_ok-loaded.was c.load_sections.ensures

pub returns : goal.returns
returns c =
    let m : c.map_err.result ≡ after_as 0 c.load_sections.result = search rules in
    let E = whole-goes c.args.file.now c.args.words.now c.args.list.now c.args.buf.now c.load_sections.new.words _ c.load_sections.ensures m c.in_ok-loaded.was (rw c.new-w.ensures.begun at c.do_all.ensures.end) in
    (c.do_all.new.ports, search (rules, E))

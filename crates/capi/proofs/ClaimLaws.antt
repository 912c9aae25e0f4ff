-- The place of an idle write.
use mathlib.Core.Path.{sym, ap, ◌∙◌}
use mathlib.Core.List.{[]}
use native.Mathlib.Omega.{arith}
use Rattle.model.specs.Step.{write, access, Answer, Result}
use Rattle.model.specs.Table.{IdleExactly}
use Rattle.model.proofs.CallFactLaws.{write-facts}
use Rattle.model.proofs.Demand2.{acts, idle_or-entered}
use Rattle.model.proofs.IdleLaws.{idle-exactly}
use Rattle.record_words.specs.Words.{state_in}
use Rattle.record_words.specs.Calls.{out_of, called}
use Rattle.record_words.specs.Claims.{ZeroAccepts}
use Rattle.record_words.proofs.ClaimLaws.{zero-accepts}
use Rattle.capi.specs.Claims.{IdlePlace}

pub idle-place : IdlePlace
unfolding IdlePlace called ZeroAccepts IdleExactly
idle-place c a d r w l ps v z =
    let s = state_in r w l ps in
    let n = zero-accepts (access (write c a d)) r w l ps [] v z in
    let most = (write-facts s c a d (acts (access (write c a d)) s n).0).memory.listed.most in
    let W = (idle-exactly c a d s n).idles in (
      λ q. idle_or-entered s c a d n (λ i e. W.0 (ap (λ (x : Result). x.answer) e)) (λ i e. absurd (omega (arith, most, sym (ap (λ (x : Result). out_of x.answer v) e) ∙ q))),
      λ never. ap (λ (x : Answer). out_of x v) (W.1 never),
    )

-- `arbiter::Arbiter::choose` meets its contract: each return has decided the tests up to its own.
use mathlib.Core.Path.{sym}
use mathlib.Core.Logic.{⊎_elim}
use native.Mathlib.Omega.{arith}
use Rattle.arbiter.proofs.Answers.{refused_requests, refused_record, answered, one_of_them}
use Rattle.arbiter.proofs.Arbiter.choose.Goals as goal

pub returns-then-requests-ge-REQUESTS_END-clause-call : goal.returns-then-requests-ge-REQUESTS_END-clause-call
returns-then-requests-ge-REQUESTS_END-clause-call c =
    ⊎_elim (λ w. sym (refused_requests c.args.self.last c.args.requests (omega arith)))
    (λ w. sym (refused_record c.args.self.last c.args.requests w.1)) c.then-requests-ge-REQUESTS_END.either

pub returns-clause-call : goal.returns-clause-call
returns-clause-call c = answered c.args.self.last c.args.requests (omega arith) (omega arith) c.first_after.result c.first_after.ensures

pub returns-clause-requester : goal.returns-clause-requester
returns-clause-requester c = one_of_them c.args.self.last c.args.requests (omega arith) (omega arith) c.first_after.result c.first_after.ensures

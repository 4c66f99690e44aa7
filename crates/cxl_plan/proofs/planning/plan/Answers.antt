use Rattle.std.proofs.Common.{sym}
use Rattle.cxl_model.specs.System.{system_of}
use Rattle.cxl_plan.proofs.LegalAnswers.{legal_answer, least_answer, no_plan, no_plan_answer, computed_answer}
use Rattle.cxl_plan.proofs.planning.plan.Goals as goal

pub plan_ready-requires-clause-ready : goal.plan_ready-requires-clause-ready
plan_ready-requires-clause-ready c =
    let system = c.accepted_image_is_system.ensures in
    record {
      system = system;
      laws = c.tree_laws.ensures.laws c.args.topo.now.nodes system.tree;
      blocks = λ rule n i low. c.requires.accepted.each rule n i;
      named = c.requires.named;
    }

pub returns-in-Some-clause-fault : goal.returns-in-Some-clause-fault
returns-in-Some-clause-fault c not_memory = c.in-Some.ensures.some (system_of c.args.image.now c.args.topo.now c.args.windows.now)

pub returns-in-Some-clause-none : goal.returns-in-Some-clause-none
returns-in-Some-clause-none c not_memory plan legal =
    let s = system_of c.args.image.now c.args.topo.now c.args.windows.now in
    let laws = c.legal_plans_fit.ensures in
    no_plan s c.args.request.now c.accepted_image_is_system.ensures c.ports_are_bytes.ensures c.requires.accepted c.requires.named laws.endpoints laws.window laws.base
    c.in-Some.fault not_memory (c.in-Some.ensures.some s) plan legal

pub returns-clause-none : goal.returns-clause-none
returns-clause-none c =
    let s = system_of c.args.image.now c.args.topo.now c.args.windows.now in
    let laws = c.legal_plans_fit.ensures in
    no_plan_answer s c.args.request.now c.accepted_image_is_system.ensures c.ports_are_bytes.ensures c.requires.accepted c.requires.named laws.endpoints laws.window laws.base
    c.plan_ready.result c.plan_ready.ensures.fault

pub returns-clause-legal : goal.returns-clause-legal
returns-clause-legal c =
    let s = system_of c.args.image.now c.args.topo.now c.args.windows.now in
    legal_answer s c.args.request.now c.accepted_image_is_system.ensures c.ports_are_bytes.ensures c.requires.accepted c.requires.named c.fitting_plans_are_legal.ensures.legal
    c.plan_ready.result c.plan_ready.ensures.endpoints c.plan_ready.ensures.plan

pub returns-clause-least : goal.returns-clause-least
returns-clause-least c =
    let s = system_of c.args.image.now c.args.topo.now c.args.windows.now in
    let laws = c.legal_plans_fit.ensures in
    least_answer s c.args.request.now c.accepted_image_is_system.ensures c.ports_are_bytes.ensures c.requires.accepted c.requires.named laws.endpoints laws.window laws.base
    c.plan_ready.result c.plan_ready.ensures.plan

pub returns-in-Some-clause-answer : goal.returns-in-Some-clause-answer
returns-in-Some-clause-answer c not_memory =
    let s = system_of c.args.image.now c.args.topo.now c.args.windows.now in
    sym (c.requests_come_to_answers.ensures.fault s c.args.request.now c.in-Some.fault c.accepted_image_is_system.ensures c.requires.named (c.in-Some.ensures.some s))

pub returns-clause-answer : goal.returns-clause-answer
returns-clause-answer c not_memory =
    let s = system_of c.args.image.now c.args.topo.now c.args.windows.now in
    computed_answer s c.args.request.now c.accepted_image_is_system.ensures c.ports_are_bytes.ensures c.requires.accepted c.requires.named c.requests_come_to_answers.ensures.plan c.requests_come_to_answers.ensures.fault
    c.plan_ready.result c.plan_ready.ensures.endpoints c.plan_ready.ensures.plan c.plan_ready.ensures.fault not_memory

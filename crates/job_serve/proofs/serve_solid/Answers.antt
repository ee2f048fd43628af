use Rattle.job_serve.proofs.Laws.{solid-refused, solid-other, solid-section, solid-statistics, solid-integrals, solid-probe}
use Rattle.job_serve.proofs.serve_solid.Goals as goal

pub returns-in-Refused : goal.returns-in-Refused
returns-in-Refused c = λ floats. solid-refused _ _ _ _ _ c.in-Refused.is

pub returns-in-Section : goal.returns-in-Section
returns-in-Section c = λ floats. solid-section _ _ _ _ _ c.in-Section.is (c.section.ensures floats)

pub returns-in-Statistics : goal.returns-in-Statistics
returns-in-Statistics c = λ floats. solid-statistics _ _ _ _ _ _ c.in-Statistics.is (c.statistics.ensures floats)

pub returns-in-Integrals : goal.returns-in-Integrals
returns-in-Integrals c = λ floats. solid-integrals _ _ _ _ _ c.in-Integrals.is (c.integrals.ensures floats)

pub returns-in-Probe : goal.returns-in-Probe
returns-in-Probe c = λ floats. solid-probe _ _ _ _ _ _ c.in-Probe.is (c.probe.ensures floats)

pub returns-in_default : goal.returns-in_default
returns-in_default c = λ floats. solid-other _ _ _ _ c.in_default.in_default-own.keys6

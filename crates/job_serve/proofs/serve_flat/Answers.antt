use Rattle.lines_velocity.proofs.TracerLaws.{searching-field, searching-traces}
use Rattle.job_serve.proofs.Laws.{flat-refused, flat-other, flat-code, flat-streamline, flat-rake, allowed-streamline, allowed-rake}
use Rattle.job_serve.proofs.serve_flat.Goals as goal

pub integrate-requires : goal.integrate-requires
integrate-requires c =
    record { tracer_entry = searching-traces _ _ _ _ _ c.searching-tracer.ensures c.requires.tracer_entry; max_steps_bound = allowed-streamline _ _ _ _ _ c.in-Streamline.is c.requires.allowed }

pub integrate_rake-requires : goal.integrate_rake-requires
integrate_rake-requires c =
    record { tracer_entry = searching-traces _ _ _ _ _ c.searching-tracer-in-Rake.ensures c.requires.tracer_entry; le_count = allowed-rake _ _ _ _ c.in-Rake.is c.requires.allowed }

pub returns-in-Refused : goal.returns-in-Refused
returns-in-Refused c = flat-refused _ _ _ c.in-Refused.is

pub returns-in-Locate : goal.returns-in-Locate
returns-in-Locate c = flat-code _ _ _ c.in-Locate.is (c.serve_locate.ensures _ _ _)

pub returns-in-Velocity : goal.returns-in-Velocity
returns-in-Velocity c = flat-code _ _ _ c.in-Velocity.is c.serve_velocity.ensures

pub returns-in-Streamline : goal.returns-in-Streamline
returns-in-Streamline c =
    flat-streamline _ _ _ _ _ (searching-field _ _ _ _ _ c.searching-tracer.ensures _) _ _ c.in-Streamline.is c.integrate.ensures

pub returns-in-Rake : goal.returns-in-Rake
returns-in-Rake c =
    flat-rake _ _ _ _ _ (searching-field _ _ _ _ _ c.searching-tracer-in-Rake.ensures _) _ c.in-Rake.is c.integrate_rake.ensures

pub returns-in_default : goal.returns-in_default
returns-in_default c = flat-other _ _ c.in_default.in_default-own.keys6

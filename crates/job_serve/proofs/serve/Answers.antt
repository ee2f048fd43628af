use Rattle.job_serve.proofs.Laws.{stands-flat, stands-solid, in-flat, in-solid}
use Rattle.job_serve.proofs.serve.Goals as goal

pub serve_flat-requires : goal.serve_flat-requires
serve_flat-requires c = record { tracer_entry = stands-flat _ _ _ _ _ c.in-Flat.is c.requires.0; allowed = c.requires.2 }

pub serve_solid-requires : goal.serve_solid-requires
serve_solid-requires c = stands-solid _ _ _ _ _ _ _ c.in-Solid.is c.requires.0 c.requires.1

pub returns-in-Flat : goal.returns-in-Flat
returns-in-Flat c = in-flat _ _ _ _ _ _ _ _ c.in-Flat.is c.serve_flat.ensures

pub returns-in-Solid : goal.returns-in-Solid
returns-in-Solid c = in-solid _ _ _ _ _ _ _ _ _ c.in-Solid.is (c.serve_solid.ensures _)

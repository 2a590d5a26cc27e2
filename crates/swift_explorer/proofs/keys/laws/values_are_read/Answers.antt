use Rattle.swift_explorer.proofs.Prelude.{flag_numbers}
use Rattle.swift_explorer.proofs.Codes.{flag_code, list_code, resume_code}
use Rattle.swift_explorer.proofs.FrameCodes.{bindings_code, fields_code, frame_code}
use Rattle.swift_explorer.proofs.keys.laws.values_are_read.Goals as goal

pub returns-clause-frames : goal.returns-clause-frames
returns-clause-frames c = frame_code.read

pub returns-clause-bindings : goal.returns-clause-bindings
returns-clause-bindings c = bindings_code.read

pub returns-clause-fields : goal.returns-clause-fields
returns-clause-fields c = fields_code.read

pub returns-clause-flags : goal.returns-clause-flags
returns-clause-flags c = (list_code flag_numbers flag_code).read

pub returns-clause-resumes : goal.returns-clause-resumes
returns-clause-resumes c = resume_code.read

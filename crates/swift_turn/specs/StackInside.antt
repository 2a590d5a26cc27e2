-- The frames below the one that runs, as the code keeps them. No public clause names these.
use Rattle.std.specs.Prelude.{Option, Some, None, List, [], ◌∷◌}
use Rattle.swift_interpreter.specs.declared.frame.Frame.{Frame}
use Rattle.swift_interpreter.specs.Frames.{FrameView, frame_view}

abbrev pub first_of : List FrameView → Option FrameView
first_of [] = None
first_of (p ∷ ps) = Some p

abbrev pub rest_of : List FrameView → List FrameView
rest_of [] = []
rest_of (p ∷ ps) = ps

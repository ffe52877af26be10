mod TextLemmas
mod MakingLemmas
mod TaskLemmas
mod LeftLemmas
mod PointerLemmas
mod CourseLemmas
mod EventLemmas
mod ExampleLemmas

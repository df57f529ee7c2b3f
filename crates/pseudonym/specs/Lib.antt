pub mod Pseudonym

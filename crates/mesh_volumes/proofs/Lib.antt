pub mod TetrahedronLaws
